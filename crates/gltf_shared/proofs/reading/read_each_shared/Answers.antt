use Rattle.std.proofs.Common.{◌≡◌, ◌++◌, ◌∷◌, [], map, ◌∙◌, sym, rules, refl, false}
use Rattle.std.proofs.lemmas.List.{map-append}
use Rattle.gltf_buffers.specs.Buffers.{source_of, blob_for}
use Rattle.gltf_buffers.specs.Shown.{blob_bytes}
use Rattle.gltf_shared.specs.Asked.{says_memory}
use Rattle.gltf_shared.specs.Shown.{answer_of, answer_of_each}
use Rattle.gltf_shared.proofs.Answers.{is_answer}
use Rattle.gltf_shared.proofs.Blobs.{blob_first, blob_next, source_at}
use Rattle.gltf_shared.proofs.Unless.{unless, same_memory}
use Rattle.gltf_shared.proofs.Walked.{walked_first, walked_more, are_shared}
use Rattle.gltf_shared.proofs.reading.read_each_shared.Goals as goal

pub buffers-init : goal.buffers-init
buffers-init g c =
    let sources = map source_of c.args.buffers.now in
    let blob = blob_bytes c.args.blob in
    record {
      walked = rw c.new-all.ensures.items (walked_first g.N.AskUpTo.asks
          (g.N.AskUpTo.names c.args.names.now) sources blob c.new-held.result c.args.names.now
          c.new-held.ensures);
      rest = blob_first sources blob;
      names = refl;
    }

pub shared_buffer-answer-requires : goal.shared_buffer-answer-requires
shared_buffer-answer-requires g c =
    rw c.buffers.invariant.names c.buffers.invariant.walked.sound

pub buffers-preserved : goal.buffers-preserved
buffers-preserved g c =
    let names = g.N.AskUpTo.names c.args.names.now in
    let sources = map source_of c.args.buffers.now in
    let blob = blob_bytes c.args.blob in
    let i = c.buffers.index in
    let b = c.index-buffers-index.result in
    let answer = c.shared_buffer-answer.result in
    let there = source_at c.args.buffers.now i b c.buffers-test.true c.index-buffers-index.is in
    let ok = rw (c.buffers.invariant.rest, c.buffers.invariant.names)
    at c.shared_buffer-answer.ensures.ok in
    let err = rw (c.buffers.invariant.rest, c.buffers.invariant.names)
    at c.shared_buffer-answer.ensures.err in
    let is = is_answer names (blob_for sources blob i) i (source_of b) answer ok err in
    let says : says_memory answer ≡ false =
    sym (same_memory answer) ∙ sym c.says_memory.ensures ∙ c.if-says_memory.false in
    let sound = rw c.buffers.invariant.names at c.shared_buffer-answer.ensures.sound in
    let asked = rw c.buffers.invariant.names at c.shared_buffer-answer.ensures.asked in
    let left = rw c.buffers.invariant.rest at c.shared_buffer-answer.ensures.blob in
    let pushed : c.push.new.self.items ≡ c.buffers.all.items ++ answer ∷ [] = search rules in
    let shown = map-append answer_of c.buffers.all.items (answer ∷ []) in
    record {
      walked = rw (pushed, shown)
          (walked_more g.N.AskUpTo.asks names sources blob i (answer_of_each c.buffers.all.items)
          c.buffers.held c.shared_buffer-answer.new.held c.args.names.now c.buffers.names
          c.shared_buffer-answer.new.names (source_of b) (answer_of answer)
          c.buffers.invariant.walked there is c.shared_buffer-answer.ensures.fits
          (unless answer _ sound says) (unless answer _ c.shared_buffer-answer.ensures.keeps says)
          (λ can. unless answer _ (asked can) says));
      rest = left ∙ blob_next sources blob i (source_of b) there;
      names = c.shared_buffer-answer.ensures.kept ∙ c.buffers.invariant.names;
    }

pub returns-clause-shared : goal.returns-clause-shared
returns-clause-shared g c =
    are_shared (map source_of c.args.buffers.now) (answer_of_each c.buffers.all.items) c.buffers.held
    c.buffers.invariant.walked.fits
