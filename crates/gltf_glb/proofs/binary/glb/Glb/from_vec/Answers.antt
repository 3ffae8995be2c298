use Rattle.std.proofs.Common.{◌≡◌, ◌≤◌, ◌-◌, ◌+◌, ℕ, List, length, take, drop, Option, Some, ap}
use Rattle.std.proofs.Common.{Result, Ok, subst, ◌∙◌, arith}
use Rattle.std.proofs.lemmas.Result.{err_from_is_err_and}
use Rattle.std.specs.Prelude.{IfSome, IfErr, IsErrAnd}
use Rattle.gltf_glb.specs.declared.binary.reading.Blob.{Blob}
use Rattle.gltf_glb.specs.declared.error.Error.{Error}
use Rattle.gltf_glb.specs.declared.error.Error.TheVariants.{Memory}
use Rattle.gltf_glb.specs.Glb.{RefusesOrRunsOut}
use Rattle.gltf_glb.specs.Reading.{IsReadingOf}
use Rattle.gltf_glb.specs.Steps.{StandsIn, IsHeader, bytes_of_blob}
use Rattle.gltf_glb.proofs.Places.{place_of, read_as}
use Rattle.gltf_glb.proofs.binary.glb.Glb.from_vec.Goals as goal

-- the place of the blob that was found
the_place : {bytes read : List ℕ} {blob : Option Blob} {found : Blob} {total : ℕ} → read ≡ bytes
    → blob ≡ Some found → total ≤ length read → IfSome blob (StandsIn (take total read))
    → (length found.behind.now + length found.contents.now ≤ total) × (total ≤ length bytes)
    × (take (length found.contents.now)
    (drop (total - length found.behind.now - length found.contents.now) bytes)
    ≡ found.contents.now)
the_place {bytes} {read} {blob} {found} {total} same is fits stands =
    let size : length read ≡ length bytes = ap length same in
    let here : StandsIn (take total bytes) found =
    subst (λ (b : List ℕ). StandsIn (take total b) found) same
    (subst (λ (b : Option Blob). IfSome b (StandsIn (take total read))) is stands) in
    let place = place_of bytes total found (omega arith) here in (place.0, omega arith, place.1)

-- memory ran out over the bytes of a container
runs_out : {A : Type 0} (bytes : List ℕ) (result : Result A Error)
    → IsErrAnd result (λ e. e ≡ Memory) → (parts : List ℕ × Option (List ℕ))
    → IsReadingOf bytes (Ok parts) → IfErr result (RefusesOrRunsOut bytes)
runs_out bytes result is parts reading =
    let passed = err_from_is_err_and result is in rw (passed.1, passed.2) (parts, reading)

pub returns-in_err-from_slice-clause-fault : goal.returns-in_err-from_slice-clause-fault
returns-in_err-from_slice-clause-fault c =
    let e = c.in_ok-header.ensures in
    let parts : List ℕ × Option (List ℕ) =
    (c.in_ok-header.json.now, bytes_of_blob c.in_ok-header.blob) in
    runs_out c.args.bytes.items c.from_residual-in_err-from_slice.result
    c.from_residual-in_err-from_slice.ensures.1 parts
    (subst (λ (b : List ℕ). IsReadingOf b (Ok parts)) c.deref.ensures.value e.parts)

pub overflow_sub-at : goal.overflow_sub-at
overflow_sub-at c =
    let e = c.in_ok-header.ensures in
    let place = the_place c.deref.ensures.value c.in-Some.is e.declared e.place in
    omega (arith, place.0)

pub overflow_sub-at-2 : goal.overflow_sub-at-2
overflow_sub-at-2 c =
    let e = c.in_ok-header.ensures in
    let place = the_place c.deref.ensures.value c.in-Some.is e.declared e.place in
    omega (arith, place.0)

pub cut_out-requires : goal.cut_out-requires
cut_out-requires c =
    let e = c.in_ok-header.ensures in
    let place = the_place c.deref.ensures.value c.in-Some.is e.declared e.place in
    omega (arith, place.0, place.1)

pub returns-clause-parts : goal.returns-clause-parts
returns-clause-parts c =
    let e = c.in_ok-header.ensures in
    let place = the_place c.deref.ensures.value c.in-Some.is e.declared e.place in
    record {
      parts =
          read_as c.deref.result.now c.args.bytes.items c.in_ok-header.json.now
          c.in_ok-from_slice.field-0.items c.cut_out.result.items c.in_ok-header.blob
          c.in-Some.field-0 c.deref.ensures.value c.in_ok-from_slice.ensures.items c.in-Some.is
          (c.cut_out.ensures.items ∙ place.2) e.parts;
      header =
          subst (λ (b : List ℕ). IsHeader b c.in_ok-header.header) c.deref.ensures.value e.header;
    }
