use Rattle.std.proofs.Common.{◌≡◌, ◌++◌, ◌∷◌, [], map, ◌∙◌, rules, refl, sym, length}
use Rattle.std.proofs.lemmas.List.{map-append, length-map}
use Rattle.std.proofs.lemmas.Result.{err_from_is_err_and}
use Rattle.gltf_buffers.specs.Buffers.{source_of}
use Rattle.gltf_buffers.specs.Shown.{blob_bytes, bytes_of_each}
use Rattle.gltf_buffers.proofs.Buffers.{none_yet, blob_first, one_more, blob_next, first_fault}
use Rattle.gltf_buffers.proofs.Buffers.{source_at}
use Rattle.gltf_buffers.proofs.Moved.{none_moved, one_moved, all_before}
use Rattle.gltf_buffers.proofs.reading.read_buffers.Goals as goal

pub buffers-init : goal.buffers-init
buffers-init g c = let e = c.new-all.ensures.items in record {
  so_far = rw e (none_yet (g.N.Ask.names c.args.names.now) (map source_of c.args.buffers.now)
      (blob_bytes c.args.blob));
  whole = λ _. refl;
  moved = rw e (none_moved (map source_of c.args.buffers.now) c.args.blob);
  rest = blob_first (map source_of c.args.buffers.now) (blob_bytes c.args.blob);
  names = refl;
  failures = refl;
}

pub returns-in_err-data-clause-err : goal.returns-in_err-data-clause-err
returns-in_err-data-clause-err g c =
    let names = g.N.Ask.names c.args.names.now in
    let old = g.N.Ask.failures c.args.names.now in
    let new = g.N.Ask.failures c.read_buffer.new.names in
    let sources = map source_of c.args.buffers.now in
    let blob = blob_bytes c.args.blob in
    let i = c.buffers.index in
    let b = c.index-buffers-index.result in
    let e = c.in_err-data.field-0.0 in
    let there = source_at c.args.buffers.now i b c.buffers-test.true c.index-buffers-index.is in
    let told = rw (
      c.buffers.invariant.rest,
      c.buffers.invariant.names,
      c.buffers.invariant.failures,
    ) at c.in_err-data.ensures.err in
    let passed = err_from_is_err_and c.from_residual.result c.from_residual.ensures.1 in
    rw (passed.1, passed.2) (first_fault names sources blob i (bytes_of_each c.buffers.all.items)
    (source_of b) old new e c.buffers.invariant.so_far there told)

pub buffers-preserved : goal.buffers-preserved
buffers-preserved g c =
    let names = g.N.Ask.names c.args.names.now in
    let sources = map source_of c.args.buffers.now in
    let blob = blob_bytes c.args.blob in
    let i = c.buffers.index in
    let b = c.index-buffers-index.result in
    let there = source_at c.args.buffers.now i b c.buffers-test.true c.index-buffers-index.is in
    let read = rw (c.buffers.invariant.rest, c.buffers.invariant.names)
    at c.in_ok-data.ensures.ok in
    let left = rw c.buffers.invariant.rest at c.in_ok-data.ensures.blob in
    let pushed : c.push.new.self.items ≡ c.buffers.all.items ++ c.in_ok-data.data ∷ [] =
    search rules in
    let count : length c.buffers.all.items ≡ i =
    sym (length-map c.buffers.all.items (λ d. d.0.items)) ∙ c.buffers.invariant.so_far.count in
    record {
      so_far = rw (pushed, map-append (λ d. d.0.items) c.buffers.all.items (c.in_ok-data.data ∷ []))
          (one_more names sources blob i (bytes_of_each c.buffers.all.items)
          (source_of b) c.in_ok-data.data.0.items c.buffers.invariant.so_far there read);
      whole = λ all.
          let before = all_before sources i (source_of b) there all in
          c.in_ok-data.ensures.untouched before.1 ∙ c.buffers.invariant.whole before.0;
      moved = rw pushed (one_moved sources c.args.blob c.buffers.left i c.buffers.all.items
          (source_of b) c.in_ok-data.data count there c.buffers.invariant.whole
          c.in_ok-data.ensures.moved c.buffers.invariant.moved);
      rest = left ∙ blob_next sources blob i (source_of b) there;
      names = c.in_ok-data.ensures.kept ∙ c.buffers.invariant.names;
      failures = c.in_ok-data.ensures.fine ∙ c.buffers.invariant.failures;
    }
