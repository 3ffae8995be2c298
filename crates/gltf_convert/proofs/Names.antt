-- Names of texts.
use Rattle.std.proofs.Common.{◌≡◌, ◌≢◌, ℕ, suc, ◌+◌, ◌<◌, List, [], ◌∷◌, ◌++◌, length, get_or}
use Rattle.std.proofs.Common.{refl, sym, ap, ◌∙◌, ◌⊎◌, inl, inr, append_assoc, arith, codes}
use Rattle.std.proofs.Common.{length-append}
use Rattle.std.proofs.lemmas.List.{append_cancel_right, get_or-append-add}
use Rattle.std.proofs.Math.Seq.{get_or-append_seam}
use Rattle.gltf_convert.specs.Forms.{IsTextAt}

-- what stands last in a text that is not empty
last_of : (base stem front : List ℕ) → stem ≢ [] → base ++ stem ≡ front ++ 47 ∷ []
    → (i : ℕ) × (i < length stem) × (get_or stem i 0 ≡ 47)
last_of base [] front some same = absurd (some refl)
last_of base (c ∷ cs) front some same =
    let long : length base + suc (length cs) ≡ length front + 1 =
    sym (length-append base (c ∷ cs)) ∙ ap length same ∙ length-append front (47 ∷ []) in
    let here : length base + length cs ≡ length front = omega arith in (
      length cs,
      omega arith,
      sym (get_or-append-add base (c ∷ cs) (length cs) 0)
          ∙ ap (λ n. get_or (base ++ c ∷ cs) n 0) here
          ∙ ap (λ (xs : List ℕ). get_or xs (length front) 0) same
          ∙ get_or-append_seam front 47 [] 0,
    )

is_slash : (base stem : List ℕ) → stem ≢ [] → base ++ stem ≡ [] → ⊥
is_slash base [] some none = some refl
is_slash base (c ∷ cs) some none =
    let long : length base + suc (length cs) ≡ 0 =
    sym (length-append base (c ∷ cs)) ∙ ap length none in
    absurd (omega arith)

-- where nothing stands between the folders of a path and its ending, no name does
pub no_name : (path front base : List ℕ) → path ≡ front ++ codes ".gltf"
    → (base ≡ []) ⊎ ((folders : List ℕ) × (base ≡ folders ++ 47 ∷ [])) → front ≡ base
    → (b s : List ℕ) → ¬ IsTextAt path b s
no_name path front base ends (inl none) same b s t =
    is_slash b s t.some (append_cancel_right (b ++ s) front (codes ".gltf")
    (append_assoc b s (codes ".gltf") ∙ sym t.whole ∙ ends) ∙ same ∙ none)
no_name path front base ends (inr folders) same b s t =
    let last = last_of b s folders.0 t.some (append_cancel_right (b ++ s) front (codes ".gltf")
    (append_assoc b s (codes ".gltf") ∙ sym t.whole ∙ ends) ∙ same ∙ folders.1) in
    t.no_slash last.0 last.1 last.2
