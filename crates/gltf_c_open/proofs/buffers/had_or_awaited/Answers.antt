use Rattle.std.proofs.Common.{◌≡◌, ◌++◌, ◌∷◌, [], map, ◌∙◌, rules}
use Rattle.std.proofs.lemmas.List.{map-append}
use Rattle.std.proofs.lemmas.Result.{err_from_is_err_and}
use Rattle.gltf_buffers.specs.Buffers.{source_of}
use Rattle.gltf_buffers.specs.Shown.{blob_bytes, bytes_of_each}
use Rattle.gltf_c_open.proofs.Faults.{none_yet, blob_first, one_more, blob_next, first_fault}
use Rattle.gltf_c_open.proofs.Faults.{source_at}
use Rattle.gltf_c_open.proofs.buffers.had_or_awaited.Goals as goal

pub buffers-init : goal.buffers-init
buffers-init c =
    let all = c.new-all.ensures.items in
    let waiting = c.new-waiting.ensures.items in
    record {
      so_far = rw (all, waiting)
          (none_yet c.args.wanted (map source_of c.args.buffers.now) (blob_bytes c.args.blob));
      rest = blob_first (map source_of c.args.buffers.now) (blob_bytes c.args.blob);
    }

pub returns-in_err-data-clause-err : goal.returns-in_err-data-clause-err
returns-in_err-data-clause-err c =
    let sources = map source_of c.args.buffers.now in
    let i = c.buffers.index in
    let b = c.index-buffers-index.result in
    let there = source_at c.args.buffers.now i b c.buffers-test.true c.index-buffers-index.is in
    let told = rw c.buffers.invariant.rest at c.in_err-data.ensures.err in
    let passed = err_from_is_err_and c.from_residual.result c.from_residual.ensures.1 in
    rw (passed.1, passed.2)
    (first_fault c.args.wanted sources (blob_bytes c.args.blob) i
    (bytes_of_each c.buffers.all.items) c.buffers.waiting.items (source_of b)
    c.in_err-data.field-0.0 c.buffers.invariant.so_far there told)

pub buffers-preserved : goal.buffers-preserved
buffers-preserved c =
    let sources = map source_of c.args.buffers.now in
    let blob = blob_bytes c.args.blob in
    let i = c.buffers.index in
    let b = c.index-buffers-index.result in
    let data_ = c.in_ok-data.data in
    let waits = c.in_ok-data.waits in
    let there = source_at c.args.buffers.now i b c.buffers-test.true c.index-buffers-index.is in
    let kept = rw c.buffers.invariant.rest at c.in_ok-data.ensures.ok in
    let left = rw c.buffers.invariant.rest at c.in_ok-data.ensures.blob in
    let all : c.push.new.self.items ≡ c.buffers.all.items ++ data_ ∷ [] = search rules in
    let marks : c.push-in-buffers.new.self.items ≡ c.buffers.waiting.items ++ waits ∷ [] =
    search rules in
    record {
      so_far = rw (all, marks, map-append (λ d. d.0.items) c.buffers.all.items (data_ ∷ []))
          (one_more c.args.wanted sources blob i (bytes_of_each c.buffers.all.items)
          c.buffers.waiting.items (source_of b) data_.0.items waits
          c.buffers.invariant.so_far there kept);
      rest = left ∙ blob_next sources blob i (source_of b) there;
    }
