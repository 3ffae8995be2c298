-- Copies of lists and of members, one after the other.
use Rattle.std.proofs.Common.{◌≡◌, ℕ, ◌+◌, ◌<◌, List, [], ◌∷◌, ◌++◌, length, take, get_or, map}
use Rattle.std.proofs.Common.{refl, ap, string_bytes, BTreeMap, String, Global}
use Rattle.std.specs.List.{AllZip}
use Rattle.std.specs.declared.alloc.AllocError.{AllocError}
use Rattle.std.specs.Prelude.{Result, Ok, Err, IfOk, MatchResult}
use Rattle.std.proofs.lemmas.List.{take_more, map-append}
use Rattle.serde_json.specs.Find.{get_member}
use Rattle.serde_json.specs.View.{view, members_view}
use Rattle.serde_json.specs.declared.value.Value.{Value}
use Rattle.serde_json.proofs.Views.{Entry}
use Rattle.gltf_json_record.specs.Found.{found_in}

members_copied : (es fs : List Entry)
    → AllZip (λ (p q : Entry). (string_bytes q.0 ≡ string_bytes p.0) × (view q.1 ≡ view p.1)) es fs
    → members_view fs ≡ members_view es
members_copied [] [] same = refl
members_copied [] (f ∷ fs) same = absurd same
members_copied (e ∷ es) [] same = absurd same
members_copied (e ∷ es) (f ∷ fs) same = rw (same.0.0, same.0.1, members_copied es fs same.1) refl

-- the members of a copy are found as those of the original
pub found_alike : (m n : BTreeMap (String Global) Value)
    → AllZip (λ (p q : Entry). (string_bytes q.0 ≡ string_bytes p.0) × (view q.1 ≡ view p.1))
    m.entries n.entries
    → found_in n ≡ found_in m
unfolding found_in
found_alike m n same =
    ap (λ ms name. get_member name ms) (members_copied m.entries n.entries same)

-- one more element is copied
pub copied_more : {T S : Type 0} (content : T → S) (xs : List T) (i : ℕ) (x : T) (ys : List T)
    (y : T)
    → i < length xs → x ≡ get_or xs i x → map content ys ≡ map content (take i xs)
    → content y ≡ content x → map content (ys ++ y ∷ []) ≡ map content (take (i + 1) xs)
copied_more content xs i x ys y below at so_far same =
    rw (
      take_more xs i x below,
      ← at,
      map-append content ys (y ∷ []),
      map-append content (take i xs) (x ∷ []),
      so_far,
      same,
    ) refl

pub clone_found : (m : BTreeMap (String Global) Value)
    (r : Result (BTreeMap (String Global) Value) AllocError) (Q : AllocError → Type 0)
    → MatchResult r (λ n. AllZip (λ (p q : Entry).
    (string_bytes q.0 ≡ string_bytes p.0) × (view q.1 ≡ view p.1)) m.entries n.entries) Q
    → IfOk r (λ n. found_in n ≡ found_in m)
clone_found m (Ok n) Q same = found_alike m n same
clone_found m (Err e) Q same = tt
