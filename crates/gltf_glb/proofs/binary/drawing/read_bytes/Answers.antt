use Rattle.std.proofs.Common.{◌≡◌, ◌≤◌, ◌<◌, ◌++◌, ℕ, List, length, None, Result, Ok, Err, sym, ap}
use Rattle.std.proofs.Common.{OnOk, OnErr, IfErr, inl, inr, ◌∙◌, arith}
use Rattle.std.proofs.lemmas.Result.{err_from_is_err_and}
use Rattle.gltf_glb.specs.Bytes.{word_at}
use Rattle.gltf_glb.specs.Faults.{front_fault}
use Rattle.gltf_glb.specs.Front.{IsStop, IsFront, IsWhole, IsFaultOnTheWay}
use Rattle.gltf_glb.specs.declared.error.Error.{Error}
use Rattle.gltf_glb.proofs.Came.{needed_all, refused_all}
use Rattle.gltf_glb.proofs.Fronts.{front_kept, total_kept}
use Rattle.gltf_glb.proofs.binary.drawing.read_bytes.Goals as goal

-- more came after a header, which stays as it was
record IsMore (all : List ℕ) (total : ℕ) : Type 0 where
  none : front_fault all ≡ None
  declared : word_at 8 all ≡ total
  low : 12 ≤ total

more_front : {all : List ℕ} {total : ℕ} (head came : List ℕ) → IsFront head total
    → all ≡ head ++ came → IsMore all total
more_front head came front is =
    let long : 12 ≤ length head = (let l = front.0 in omega arith) in
    record {
      none = ap front_fault is ∙ front_kept head came long ∙ front.1;
      declared = ap (word_at 8) is ∙ total_kept head came long ∙ sym front.2;
      low = front.3;
    }

all_came : {all : List ℕ} {total : ℕ} (result : Result Unit Error) → IsMore all total
    → OnOk result (length all ≡ total) → OnOk result (IsWhole all)
all_came (Ok done) more whole =
    let low = more.low in (more.none, whole ∙ sym more.declared, omega arith)
all_came (Err e) more whole = tt

cut_off : {all : List ℕ} {total : ℕ} (result : Result Unit Error) → IsMore all total
    → OnErr result (length all < total) → IfErr result IsStop → IfErr result (IsFaultOnTheWay all)
cut_off (Ok done) more few stop = tt
cut_off (Err e) more few stop =
    let declared = more.declared in inr (stop, (more.none, omega arith))

pub returns-in_err-length-clause-within : goal.returns-in_err-length-clause-within
returns-in_err-length-clause-within g c =
    needed_all c.front_of.new.bytes.items (Err c.in_err-length.field-0.0) tt
    (inl c.in_err-length.ensures.err)

pub returns-in_err-length-clause-refused : goal.returns-in_err-length-clause-refused
returns-in_err-length-clause-refused g c =
    let passed = err_from_is_err_and c.from_residual.result c.from_residual.ensures.1 in
    rw (passed.1, passed.2) (refused_all c.front_of.new.bytes.items (Err c.in_err-length.field-0.0)
    (inl c.in_err-length.ensures.err))

pub returns-clause-within : goal.returns-clause-within
returns-clause-within g c =
    let more = more_front _ _ c.in_ok-length.ensures.ok c.fill_up.ensures.came.2 in
    needed_all c.fill_up.new.bytes.items c.fill_up.result
    (all_came c.fill_up.result more c.fill_up.ensures.all)
    (cut_off c.fill_up.result more c.fill_up.ensures.fewer c.fill_up.ensures.stop)

pub returns-clause-whole : goal.returns-clause-whole
returns-clause-whole g c =
    let more = more_front _ _ c.in_ok-length.ensures.ok c.fill_up.ensures.came.2 in
    all_came c.fill_up.result more c.fill_up.ensures.all

pub returns-clause-refused : goal.returns-clause-refused
returns-clause-refused g c =
    let more = more_front _ _ c.in_ok-length.ensures.ok c.fill_up.ensures.came.2 in
    refused_all c.fill_up.new.bytes.items c.fill_up.result
    (cut_off c.fill_up.result more c.fill_up.ensures.fewer c.fill_up.ensures.stop)
