use Rattle.std.proofs.Common.{◌≡◌, List, ℕ, [], ◌++◌, refl, sym, ap, ◌∙◌, append_assoc, append-nil}
use Rattle.std.proofs.Common.{codes, length, arith}
use Rattle.std.proofs.lemmas.Grind.{common_steps}
use Rattle.std.proofs.lemmas.List.{nil_from_length}
use Rattle.gltf_convert.specs.Forms.{HasNoForm}
use Rattle.gltf_convert.proofs.Names.{no_name}
use Rattle.gltf_convert.proofs.words.form_of.Goals as goal

pub returns-in_default : goal.returns-in_default
returns-in_default c =
    let none : HasNoForm c.args.to.now = (
      c.if-ends_with.ensures.cases,
      λ base stem t. c.in_default.ensures.cases (base ++ stem)
          (t.whole ∙ sym (append_assoc base stem (codes ".gltf"))),
    ) in
    (refl, none)

pub returns-in-Some-strip_prefix : goal.returns-in-Some-strip_prefix
returns-in-Some-strip_prefix c =
    let path = c.args.to.now in
    let front = c.in-Some.front.now in
    let base = c.base_of-base.result.now in
    let stem = c.in-Some-strip_prefix.stem.now in
    let found = c.in-Some.ensures.cases in
    let cut = c.in-Some-strip_prefix.ensures.cases in
    let ends : path ≡ front ++ codes ".gltf" =
    found.1.1 ∙ ap (λ (xs : List ℕ). xs ++ codes ".gltf") (sym found.2) in
    let none : length stem ≡ 0 = grind (arith, common_steps) in
    let same : front ≡ base =
    cut.1.1 ∙ ap (λ (xs : List ℕ). base ++ xs) (sym cut.2 ∙ nil_from_length stem none)
    ∙ append-nil base in
    let no_form : HasNoForm path = (
      c.if-ends_with.ensures.cases,
      no_name path front base ends c.base_of-base.ensures.ends same,
    ) in
    (refl, no_form)
