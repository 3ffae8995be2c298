-- The rules of a document without the names of a list, and those of the whole.
use Rattle.std.proofs.Common.{◌≡◌, ℕ, ◌+◌, List, [], ◌∷◌, String, Global, Bool, true, false}
use Rattle.std.proofs.Common.{inl, inr, refl, sym, subst, ◌∙◌, if◌then◌else◌}
use Rattle.std.proofs.Common.{true≢false, string_bytes}
use Rattle.std.proofs.lemmas.List.Elements.{All-nil, All-cons, All-head, All-tail}
use Rattle.std.specs.Prelude.{not, All, ◌↔◌}
use Rattle.gltf_json.specs.declared.root.Root.{Root}
use Rattle.gltf_json_record.specs.Member.{is_one_of}
use Rattle.gltf_validation.specs.Documents.{Faults, counts_of, root_rules, required_rules}
use Rattle.gltf_validation.specs.Documents.{supported_rules}
use Rattle.gltf_validation.specs.Members.{elements_rules}
use Rattle.gltf_validation.specs.Rules.{Hold}
use Rattle.gltf_options.specs.Besides.{IsBesides, required_of}
use Rattle.gltf_options.specs.Laws.{IsSupported, IsHandled, AreHandled, other_rules}
use Rattle.gltf_options.specs.Laws.{HoldsWhereHandled}
use Rattle.gltf_options.specs.Names.{texts, left_of}

-- ---- the rules of a list of names

supported_in : (i : ℕ) (names : List (String Global))
    → Hold (elements_rules supported_rules i names) → All IsSupported (texts names)
supported_in i [] h = All-nil IsSupported
supported_in i (name ∷ names) h =
    All-cons IsSupported (string_bytes name) (texts names) h.0 (supported_in (i + 1) names h.1)

hold_of : (i : ℕ) (names : List (String Global)) → All IsSupported (texts names)
    → Hold (elements_rules supported_rules i names)
hold_of i [] h = tt
hold_of i (name ∷ names) h = (
  All-head IsSupported (string_bytes name) (texts names) h,
  hold_of (i + 1) names (All-tail IsSupported (string_bytes name) (texts names) h),
)

-- ---- those that are left, and all

more : (also : List (List ℕ)) (b : Bool) (name : List ℕ) (left names : List (List ℕ))
    → is_one_of also name ≡ b → (All IsSupported left → AreHandled also names)
    → All IsSupported (if not b then name ∷ left else left) → AreHandled also (name ∷ names)
more also true name left names is rest h =
    All-cons (IsHandled also) name names (inr is) (rest h)
more also false name left names is rest h =
    All-cons (IsHandled also) name names (inl (All-head IsSupported name left h))
    (rest (All-tail IsSupported name left h))

handled : (also names : List (List ℕ)) → All IsSupported (left_of also names)
    → AreHandled also names
handled also [] h = All-nil (IsHandled also)
handled also (name ∷ names) h =
    more also (is_one_of also name) name (left_of also names) names refl (handled also names) h

fewer : (also : List (List ℕ)) (b : Bool) (name : List ℕ) (left : List (List ℕ))
    → is_one_of also name ≡ b → IsHandled also name → All IsSupported left
    → All IsSupported (if not b then name ∷ left else left)
fewer also true name left is one rest = rest
fewer also false name left is (inl supported) rest =
    All-cons IsSupported name left supported rest
fewer also false name left is (inr listed) rest = absurd (true≢false (sym listed ∙ is))

supported_left : (also names : List (List ℕ)) → AreHandled also names
    → All IsSupported (left_of also names)
supported_left also [] h = All-nil IsSupported
supported_left also (name ∷ names) h =
    fewer also (is_one_of also name) name (left_of also names) refl
    (All-head (IsHandled also) name names h)
    (supported_left also names (All-tail (IsHandled also) name names h))

-- ---- the whole

-- the rules of r with other names
abbrev HoldWith : List (List ℕ) → Root → Root → Type 0
HoldWith also r s = Hold (other_rules (counts_of r) r) × All IsSupported (required_of s)

apart : (also : List (List ℕ)) (r s : Root) → IsBesides also r s
    → Hold (root_rules (counts_of s) s) → HoldWith also r s
apart also r s besides hold =
    let h = subst (λ (x : Root). Hold (root_rules (counts_of x) x)) besides.others hold in (
      (h.0, (h.1.0, (h.1.1.0, (h.1.1.1.0, (h.1.1.1.1.0, h.1.1.1.1.1.1))))),
      supported_in 0 s.extensions_required.items h.1.1.1.1.1.0,
    )

together : (also : List (List ℕ)) (r s : Root) → IsBesides also r s → HoldWith also r s
    → Hold (root_rules (counts_of s) s)
together also r s besides hold =
    let o = hold.0 in
    let names : Hold (required_rules s.extensions_required.items) =
    hold_of 0 s.extensions_required.items hold.1 in
    subst (λ (x : Root). Hold (root_rules (counts_of x) x)) (sym besides.others)
    (o.0, (o.1.0, (o.1.1.0, (o.1.1.1.0, (o.1.1.1.1.0, (names, o.1.1.1.1.1))))))

pub holds_where_handled : ((r : Root) → (Faults r ≡ []) ↔ Hold (root_rules (counts_of r) r))
    → HoldsWhereHandled
holds_where_handled law also r s besides = (
  λ none.
      let h = apart also r s besides ((law s).0 none) in
      (h.0, handled also (required_of r) (subst (All IsSupported) besides.names h.1)),
  λ h.
      (law s).1 (together also r s besides (
        h.0,
        subst (All IsSupported) (sym besides.names)
            (supported_left also (required_of r) h.1),
      )),
)
