use Rattle.std.proofs.Common.{inl, ◌≡◌, ◌++◌, ◌∷◌, [], map, ◌∙◌, sym, rules, refl, Ok, ℕ, List, Result, length, arith, subst}
use Rattle.gltf_glb.specs.declared.error.Error.{Error}
use Rattle.std.proofs.lemmas.List.{map-append, length-map}
use Rattle.std.proofs.Common.{Vec, Global}
use Rattle.std.specs.declared.rc.Rc.{Rc}
use Rattle.gltf_buffers.specs.declared.data.Data.{Data}
use Rattle.std.proofs.lemmas.Result.{err_from_is_err_and}
use Rattle.gltf_buffers.specs.Buffers.{source_of}
use Rattle.gltf_buffers.specs.Each.{AreAnswers}
use Rattle.gltf_buffers.specs.Shown.{blob_bytes}
use Rattle.gltf_shared.specs.Shown.{bytes_of_each}
use Rattle.gltf_shared.proofs.Blobs.{blob_first, blob_next, source_at}
use Rattle.gltf_shared.proofs.Noted.{none_yet}
use Rattle.gltf_shared.proofs.Refused.{refused}
use Rattle.gltf_shared.proofs.Unless.{both_unless}
use Rattle.gltf_shared.proofs.Walked.{walked_first, walked_more, are_shared, asks_once, asked_more}
use Rattle.gltf_shared.proofs.reading.read_shared.Goals as goal

pub buffers-init : goal.buffers-init
buffers-init g c =
    let sources = map source_of c.args.buffers.now in
    let blob = blob_bytes c.args.blob in
    record {
      walked = rw c.new-all.ensures.items (walked_first g.N.AskUpTo.asks
          (g.N.AskUpTo.names c.args.names.now) sources blob c.new-held.result c.args.names.now
          c.new-held.ensures);
      rest = blob_first sources blob;
      names = refl;
      none = none_yet c.new-held.result c.new-held.ensures;
      noted = refl;
    }

pub shared_buffer-requires : goal.shared_buffer-requires
shared_buffer-requires g c =
    rw c.buffers.invariant.names c.buffers.invariant.walked.sound

pub buffers-preserved : goal.buffers-preserved
buffers-preserved g c =
    let names = g.N.AskUpTo.names c.args.names.now in
    let sources = map source_of c.args.buffers.now in
    let blob = blob_bytes c.args.blob in
    let i = c.buffers.index in
    let b = c.index-buffers-index.result in
    let there = source_at c.args.buffers.now i b c.buffers-test.true c.index-buffers-index.is in
    let read = rw (c.buffers.invariant.rest, c.buffers.invariant.names)
    at c.in_ok-data.ensures.ok in
    let sound = rw c.buffers.invariant.names at c.in_ok-data.ensures.sound in
    let asked = rw c.buffers.invariant.names at c.in_ok-data.ensures.asked in
    let left = rw c.buffers.invariant.rest at c.in_ok-data.ensures.blob in
    let bytes = c.in_ok-data.data.value.0.items in
    let pushed : c.push.new.self.items ≡ c.buffers.all.items ++ c.in_ok-data.data ∷ [] =
    search rules in
    record {
      walked = rw (
        pushed,
        map-append (λ d. d.value.0.items) c.buffers.all.items (c.in_ok-data.data ∷ []),
        map-append {B = Result (List ℕ) Error} Ok (bytes_of_each c.buffers.all.items) (bytes ∷ []),
      )
          (walked_more g.N.AskUpTo.asks names sources blob i
          (map Ok (bytes_of_each c.buffers.all.items)) c.buffers.held
          c.shared_buffer.new.held c.args.names.now c.buffers.names
          c.shared_buffer.new.names (source_of b) (Ok bytes)
          c.buffers.invariant.walked there read c.in_ok-data.ensures.fits
          sound c.in_ok-data.ensures.keeps asked);
      rest = left ∙ blob_next sources blob i (source_of b) there;
      names = c.in_ok-data.ensures.kept ∙ c.buffers.invariant.names;
      none = c.in_ok-data.ensures.none c.buffers.invariant.none;
      noted = c.in_ok-data.ensures.noted ∙ c.buffers.invariant.noted;
    }

pub returns-clause-shared : goal.returns-clause-shared
returns-clause-shared g c =
    are_shared (map source_of c.args.buffers.now) (map Ok (bytes_of_each c.buffers.all.items)) c.buffers.held
    c.buffers.invariant.walked.fits

pub returns-clause-ok : goal.returns-clause-ok
returns-clause-ok g c =
    let names = g.N.AskUpTo.names c.args.names.now in
    let sources = map source_of c.args.buffers.now in
    let blob = blob_bytes c.args.blob in
    let bytes = bytes_of_each c.buffers.all.items in
    let at_end : c.buffers.index ≡ length c.args.buffers.now = omega arith in
    let all : c.buffers.index ≡ length sources =
    at_end ∙ sym (length-map c.args.buffers.now source_of) in
    c.are_bytes_of_all.ensures names sources blob (length sources) bytes
    (subst (λ n. AreAnswers names sources blob n (map Ok bytes)) all c.buffers.invariant.walked.are)

pub returns-in_err-data-clause-err : goal.returns-in_err-data-clause-err
returns-in_err-data-clause-err g c =
    let names = g.N.AskUpTo.names c.args.names.now in
    let sources = map source_of c.args.buffers.now in
    let blob = blob_bytes c.args.blob in
    let i = c.buffers.index in
    let b = c.index-buffers-index.result in
    let e = c.in_err-data.field-0.0 in
    let there = source_at c.args.buffers.now i b c.buffers-test.true c.index-buffers-index.is in
    let told = rw (c.buffers.invariant.rest, c.buffers.invariant.names)
    at c.in_err-data.ensures.err in
    let noted = rw c.buffers.invariant.noted at c.in_err-data.ensures.noted in
    let passed = err_from_is_err_and c.from_residual.result c.from_residual.ensures.1 in
    rw (passed.1, passed.2) (refused names sources blob i (bytes_of_each c.buffers.all.items)
    (source_of b) e c.buffers.held (g.N.AskUpTo.failures c.args.names.now)
    (g.N.AskUpTo.failures c.shared_buffer.new.names) c.first_error_is_that_of_all.ensures
    c.buffers.invariant.none c.buffers.invariant.walked.are there told noted)

pub returns-in_err-data-clause-asked : goal.returns-in_err-data-clause-asked
returns-in_err-data-clause-asked g c =
    let sources = map source_of c.args.buffers.now in
    let i = c.buffers.index in
    let b = c.index-buffers-index.result in
    let e = c.in_err-data.field-0.0 in
    let there = source_at c.args.buffers.now i b c.buffers-test.true c.index-buffers-index.is in
    let asked = rw c.buffers.invariant.names at c.in_err-data.ensures.asked in
    let passed = err_from_is_err_and c.from_residual.result c.from_residual.ensures.1 in
    λ can. rw (passed.1, passed.2) (both_unless (Rc Data Global) (Vec (Rc Data Global) Global) e _ _ _
    (λ keeps more. asks_once g.N.AskUpTo.asks sources c.shared_buffer.new.held c.args.names.now
    c.shared_buffer.new.names (asked_more g.N.AskUpTo.asks sources i (source_of b) c.buffers.held
    c.shared_buffer.new.held c.args.names.now c.buffers.names c.shared_buffer.new.names
    (c.buffers.invariant.walked.asked can) keeps there more))
    c.in_err-data.ensures.keeps (asked can))

pub returns-in_err-push-clause-err : goal.returns-in_err-push-clause-err
returns-in_err-push-clause-err g c =
    let exit = c.from_residual-in_err-push in
    let passed = err_from_is_err_and exit.result exit.ensures.1 in
    rw (passed.1, passed.2) (inl refl)
