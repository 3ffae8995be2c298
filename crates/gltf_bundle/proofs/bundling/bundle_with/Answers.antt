use Rattle.std.proofs.Common.{ℕ, List, ◌++◌, length, subst}
use Rattle.std.proofs.lemmas.Result.{err_from_is_err_and}
use Rattle.serde_json.specs.View.{view}
use Rattle.gltf_buffers.specs.Names.{names_of}
use Rattle.gltf_edit.specs.Embedded.{embedded}
use Rattle.gltf_edit.specs.Faults.{NamesStray, IsTooLong}
use Rattle.gltf_edit.specs.Joined.{joined}
use Rattle.gltf_bundle.specs.Bundle.{ArePlaces, IsContainerOf, blob_of}
use Rattle.gltf_bundle.specs.Keep.{kept}
use Rattle.gltf_bundle.specs.Refusals.{RefusesContainerOf}
use Rattle.gltf_bundle.proofs.Sourced.{is_bundle}
use Rattle.gltf_bundle.proofs.Refused.{join_refused, edit_refused, answer_refused, import_refused}
use Rattle.gltf_bundle.proofs.bundling.bundle_with.Goals as goal

pub container_of-requires : goal.container_of-requires
container_of-requires g c =
    let places = rw c.deref.ensures.value at c.in_ok-places.ensures.places in
    rw c.deref-3.ensures.value places.total

pub returns-in-Ok-clause-bundle : goal.returns-in-Ok-clause-bundle
returns-in-Ok-clause-bundle g c =
    let names = names_of (g.S.NamedBytes.bytes_by_name c.args.source.now) in
    let was = c.in_ok-value in
    let all =
    rw (was.value-is, was.pictures-is, was.buffers-is, c.keep.ensures) at was.ensures.gathered in
    let made = c.in_ok-places.places in
    let places : ArePlaces (all.1 ++ all.2) made =
    subst (λ (bs : List (List ℕ)). ArePlaces bs made) all.5
    (rw (c.deref.ensures.value, was.buffers-is) at c.in_ok-places.ensures.places) in
    let edited = rw (c.deref-2.ensures.value, was.value-is, was.pictures-is) at
    c.in_ok-value-2.ensures in
    let answer = c.in_ok-answer.answer.items in
    let written : IsContainerOf (view c.in_ok-value-2.value) (blob_of (all.1 ++ all.2)) answer =
    subst (λ (bs : List (List ℕ)).
    IsContainerOf (view c.in_ok-value-2.value) (blob_of bs) answer) all.5
    (rw (c.deref-3.ensures.value, was.buffers-is) at c.in_ok-answer.ensures.written) in
    is_bundle c.args.required.now names c.args.path.now (kept c.args.options.now) (view was.value)
    all.0 all.1 all.2 was.pictures.items all.3 all.4 made places edited.placed
    (view c.in_ok-value-2.value) edited.value answer written
    (g.S.NamedBytes.failures c.args.source.now) (g.S.NamedBytes.failures c.gather.new.source) all.6

pub returns-in-Ok-clause-accepted : goal.returns-in-Ok-clause-accepted
returns-in-Ok-clause-accepted g c = rw c.deref-4.ensures.value at c.in-Ok.ensures.accepted

pub returns-in_err-places-clause-refused : goal.returns-in_err-places-clause-refused
returns-in_err-places-clause-refused g c =
    let names = names_of (g.S.NamedBytes.bytes_by_name c.args.source.now) in
    let old = g.S.NamedBytes.failures c.args.source.now in
    let new = g.S.NamedBytes.failures c.gather.new.source in
    let was = c.in_ok-value in
    let f = c.in_err-places.field-0.0 in
    let all =
    rw (was.value-is, was.pictures-is, was.buffers-is, c.keep.ensures) at was.ensures.gathered in
    let told : IsTooLong (length (joined (all.1 ++ all.2))) f =
    subst (λ (bs : List (List ℕ)). IsTooLong (length (joined bs)) f) all.5
    (rw (c.deref.ensures.value, was.buffers-is) at c.in_err-places.ensures.refused) in
    let exit = c.from_residual-in_err-places in
    let passed = err_from_is_err_and exit.result exit.ensures.1 in
    rw (passed.1, passed.2)
    (join_refused c.args.required.now names c.args.path.now (kept c.args.options.now) old new
    (view was.value) all.0
    all.1 all.2 was.pictures.items all.3 all.4 all.6 f told)

pub returns-in_err-value-2-clause-refused : goal.returns-in_err-value-2-clause-refused
returns-in_err-value-2-clause-refused g c =
    let names = names_of (g.S.NamedBytes.bytes_by_name c.args.source.now) in
    let old = g.S.NamedBytes.failures c.args.source.now in
    let new = g.S.NamedBytes.failures c.gather.new.source in
    let was = c.in_ok-value in
    let all =
    rw (was.value-is, was.pictures-is, was.buffers-is, c.keep.ensures) at was.ensures.gathered in
    let made = c.in_ok-places.places in
    let places : ArePlaces (all.1 ++ all.2) made =
    subst (λ (bs : List (List ℕ)). ArePlaces bs made) all.5
    (rw (c.deref.ensures.value, was.buffers-is) at c.in_ok-places.ensures.places) in
    let f = c.in_err-value-2.field-0.0 in
    let stray =
    rw (c.deref-2.ensures.value, was.value-is, was.pictures-is) at
    c.in_err-value-2.ensures.refused in
    let exit = c.from_residual-in_err-value-2 in
    let passed = err_from_is_err_and exit.result exit.ensures.1 in
    rw (passed.1, passed.2)
    (edit_refused c.args.required.now names c.args.path.now (kept c.args.options.now) old new
    (view was.value) all.0
    all.1 all.2 was.pictures.items all.3 all.4 all.6 f
    (subst (λ spans. NamesStray spans (embedded was.pictures.items (view was.value)) f)
    places.spans stray))

pub returns-in_err-answer-clause-refused : goal.returns-in_err-answer-clause-refused
returns-in_err-answer-clause-refused g c =
    let names = names_of (g.S.NamedBytes.bytes_by_name c.args.source.now) in
    let old = g.S.NamedBytes.failures c.args.source.now in
    let new = g.S.NamedBytes.failures c.gather.new.source in
    let was = c.in_ok-value in
    let all =
    rw (was.value-is, was.pictures-is, was.buffers-is, c.keep.ensures) at was.ensures.gathered in
    let made = c.in_ok-places.places in
    let places : ArePlaces (all.1 ++ all.2) made =
    subst (λ (bs : List (List ℕ)). ArePlaces bs made) all.5
    (rw (c.deref.ensures.value, was.buffers-is) at c.in_ok-places.ensures.places) in
    let edited =
    rw (c.deref-2.ensures.value, was.value-is, was.pictures-is) at c.in_ok-value-2.ensures in
    let exit = c.from_residual-in_err-answer in
    let passed = err_from_is_err_and exit.result exit.ensures.1 in
    rw (passed.1, passed.2)
    (answer_refused c.args.required.now names c.args.path.now (kept c.args.options.now) old new
    (view was.value)
    all.0 all.1 all.2 was.pictures.items all.3 all.4 all.6 made places edited.placed
    (view c.in_ok-value-2.value) edited.value c.in_err-answer.field-0.0
    (subst (λ (bs : List (List ℕ)).
    RefusesContainerOf (view c.in_ok-value-2.value) (blob_of bs) c.in_err-answer.field-0.0) all.5
    (rw (c.deref-3.ensures.value, was.buffers-is) at c.in_err-answer.ensures.refused)))

pub returns : goal.returns
returns g c =
    let names = names_of (g.S.NamedBytes.bytes_by_name c.args.source.now) in
    let keep = kept c.args.options.now in
    let was = c.in_ok-value in
    let all =
    rw (was.value-is, was.pictures-is, was.buffers-is, c.keep.ensures) at was.ensures.gathered in
    let made = c.in_ok-places.places in
    let places : ArePlaces (all.1 ++ all.2) made =
    subst (λ (bs : List (List ℕ)). ArePlaces bs made) all.5
    (rw (c.deref.ensures.value, was.buffers-is) at c.in_ok-places.ensures.places) in
    let edited =
    rw (c.deref-2.ensures.value, was.value-is, was.pictures-is) at c.in_ok-value-2.ensures in
    let answer = c.in_ok-answer.answer.items in
    let written : IsContainerOf (view c.in_ok-value-2.value) (blob_of (all.1 ++ all.2)) answer =
    subst (λ (bs : List (List ℕ)).
    IsContainerOf (view c.in_ok-value-2.value) (blob_of bs) answer) all.5
    (rw (c.deref-3.ensures.value, was.buffers-is) at c.in_ok-answer.ensures.written) in
    let e = c.in-Err.error in
    let old = g.S.NamedBytes.failures c.args.source.now in
    let new = g.S.NamedBytes.failures c.gather.new.source in
    let told = rw c.deref-4.ensures.value at c.in-Err.ensures.refused in
    record {
      bundle = tt;
      accepted = tt;
      refused =
          rw c.of_answer.ensures
          (import_refused c.args.required.now names c.args.path.now keep old new answer e
          (is_bundle c.args.required.now names c.args.path.now keep (view was.value) all.0 all.1
          all.2 was.pictures.items all.3 all.4 made places edited.placed
          (view c.in_ok-value-2.value) edited.value answer written old new all.6)
          told);
    }
