use Rattle.std.proofs.Common.{◌≡◌, ◌≢◌, ◌<◌, ◌+◌, ◌-◌, ◌∷◌, [], ◌++◌, ◌∙◌, ℕ, List}
use Rattle.std.proofs.Common.{length, take, drop, get_or, refl, sym, ap, inl, inr, arith}
use Rattle.std.proofs.Common.{append_assoc, length-append}
use Rattle.std.proofs.lemmas.List.{take-append-drop}
use Rattle.std.proofs.lemmas.List.{take_at}
use Rattle.std.proofs.lemmas.Str.Pattern.{drop_at_char, NoCharPasses-char}
use Rattle.gltf.specs.Files.{IsBaseOf}
use Rattle.gltf.proofs.imports.base_of.Goals as goal

behind_last : (path folders base : List ℕ) (i j : ℕ) → drop i path ≡ 47 ∷ drop j path
    → folders ≡ take i path
    → ((k : ℕ) → k < length (drop j path) → get_or (drop j path) k 0 ≢ 47)
    → base ≡ take (length folders + 1) path → IsBaseOf path base
behind_last path folders base i j slash front none is =
    let rest = drop j path in
    let joined : path ≡ (folders ++ 47 ∷ []) ++ drop j path =
    sym (take-append-drop i path) ∙ ap (λ (p : List ℕ). take i path ++ p) slash
    ∙ ap (λ (p : List ℕ). p ++ 47 ∷ drop j path) (sym front)
    ∙ sym (append_assoc folders (47 ∷ []) (drop j path)) in
    let long : length (folders ++ 47 ∷ []) ≡ length folders + 1 =
    length-append folders (47 ∷ []) in
    let same : base ≡ folders ++ 47 ∷ [] =
    is ∙ ap (λ (p : List ℕ). take (length folders + 1) p) joined
    ∙ take_at (folders ++ 47 ∷ []) rest (length folders + 1) long in
    record {
      name = rest;
      whole = joined ∙ ap (λ (b : List ℕ). b ++ rest) (sym same);
      no_slash = none;
      ends = inr (folders, same);
    }

pub returns-in-Some : goal.returns-in-Some
returns-in-Some c =
    let path = c.args.path.now in
    let found = c.in-Some.ensures.cases in
    let none : (k : ℕ) → k < length (drop found.1 path) → get_or (drop found.1 path) k 0 ≢ 47 =
    λ k below. NoCharPasses-char 47 (drop found.1 path) k found.2.0 (omega arith) below in
    let count : (length c.in-Some.folders.now + 1) - 0 ≡ length c.in-Some.folders.now + 1 =
    omega arith in
    behind_last path c.in-Some.folders.now c.range.result.now found.0 found.1
    (drop_at_char 47 path found.0 found.1 found.2.1 (omega arith)) found.3 none
    (c.range.ensures.value ∙ ap (λ (n : ℕ). take n path) count)

pub returns-in-None : goal.returns-in-None
returns-in-None c =
    let path = c.args.path.now in
    let none = c.in-None.ensures.cases in
    record {
      name = path;
      whole = refl;
      no_slash = λ k below. NoCharPasses-char 47 path k none (omega arith) below;
      ends = inl refl;
    }
