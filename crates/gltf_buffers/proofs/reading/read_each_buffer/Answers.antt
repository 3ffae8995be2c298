use Rattle.std.proofs.Common.{◌≡◌, ◌++◌, ◌∷◌, [], map, ◌∙◌, rules, refl, arith}
use Rattle.std.proofs.lemmas.List.{map-append}
use Rattle.gltf_buffers.specs.Buffers.{source_of, blob_for}
use Rattle.gltf_buffers.specs.Shown.{blob_bytes, answer_of, answer_of_each}
use Rattle.gltf_buffers.proofs.Buffers.{blob_first, blob_next, source_at}
use Rattle.gltf_buffers.proofs.Each.{none_answered, none_noted, is_answer, one_answered, noted_more}
use Rattle.gltf_buffers.proofs.reading.read_each_buffer.Goals as goal

pub buffers-init : goal.buffers-init
buffers-init g c =
    let sources = map source_of c.args.buffers.now in
    let e = c.in_ok-all.ensures.items in
    record {
      so_far = rw e (none_answered (g.N.Ask.names c.args.names.now) sources
          (blob_bytes c.args.blob));
      noted = rw e (none_noted sources (g.N.Ask.failures c.args.names.now));
      rest = blob_first sources (blob_bytes c.args.blob);
      names = refl;
      long = c.in_ok-all.ensures.len;
      room = c.in_ok-all.ensures.capacity;
    }

pub buffers-preserved : goal.buffers-preserved
buffers-preserved g c =
    let names = g.N.Ask.names c.args.names.now in
    let sources = map source_of c.args.buffers.now in
    let blob = blob_bytes c.args.blob in
    let i = c.buffers.index in
    let b = c.index-buffers-index.result in
    let so_far = answer_of_each c.buffers.all.items in
    let answer = c.read_buffer-answer.result in
    let old = g.N.Ask.failures c.buffers.names in
    let new = g.N.Ask.failures c.read_buffer-answer.new.names in
    let there = source_at c.args.buffers.now i b c.buffers-test.true c.index-buffers-index.is in
    let ok = rw (c.buffers.invariant.rest, c.buffers.invariant.names)
    at c.read_buffer-answer.ensures.ok in
    let err = rw (c.buffers.invariant.rest, c.buffers.invariant.names)
    at c.read_buffer-answer.ensures.err in
    let is = is_answer names (blob_for sources blob i) i (source_of b) old new answer ok err
    c.read_buffer-answer.ensures.fine in
    let left = rw c.buffers.invariant.rest at c.read_buffer-answer.ensures.blob in
    let pushed : c.push.new.self.items ≡ c.buffers.all.items ++ answer ∷ [] = search rules in
    let shown = map-append answer_of c.buffers.all.items (answer ∷ []) in
    record {
      so_far = rw (pushed, shown)
          (one_answered names sources blob i so_far (source_of b) (answer_of answer)
          c.buffers.invariant.so_far there is.0);
      noted = rw (pushed, shown)
          (noted_more sources so_far i (source_of b) (answer_of answer)
          (g.N.Ask.failures c.args.names.now) old new c.buffers.invariant.so_far.count there
          c.buffers.invariant.noted is.1);
      rest = left ∙ blob_next sources blob i (source_of b) there;
      names = c.read_buffer-answer.ensures.kept ∙ c.buffers.invariant.names;
      long = omega (arith, c.in_ok-push.ensures.len, c.buffers.invariant.long);
      room = omega (arith, c.push.ensures.capacity, c.buffers.invariant.room);
    }
