-- Views that pass buffers.
use Rattle.std.proofs.Common.{◌≡◌, ℕ, zero, suc, ◌+◌, ◌-◌, ◌<◌, List, [], ◌∷◌, drop, get_or}
use Rattle.std.proofs.Common.{Bool, true, false, refl, ap, ◌∙◌, arith, ⊎_elim, length}
use Rattle.std.proofs.lemmas.Bool.{cases_lt}
use Rattle.std.specs.Prelude.{if◌then◌else◌, ◌==◌}
use Rattle.serde_json.specs.Data.{Items}
use Rattle.serde_json.specs.View.{view, items_view}
use Rattle.serde_json.specs.declared.value.Value.{Value}
use Rattle.gltf_trim.specs.Lengths.{is_in, is_in_some, may_go, holds_from}
use Rattle.gltf_trim.specs.Passed.{MayGoUpTo, MayGoBy, AreBlank, ArePassed}

-- ---- a view among those that go

first_holds : (x y : Bool) → x ≡ true → (if x then true else y) ≡ true
first_holds x y is = ap (λ (b : Bool). if b then true else y) is

second_holds : (x y : Bool) → y ≡ true → (if x then true else y) ≡ true
second_holds true y is = refl
second_holds false y is = is

in_some_from : (b p : ℕ) (vs : List Value) (i : ℕ)
    → is_in_some b p (items_view (drop i vs)) ≡ true → is_in_some b p (items_view vs) ≡ true
in_some_from b p vs zero is = is
in_some_from b p [] (suc i) is = is
in_some_from b p (v ∷ vs) (suc i) is =
    second_holds (is_in b p (view v)) (is_in_some b p (items_view vs))
    (in_some_from b p vs i is)

in_some_at : (b p : ℕ) (vs : List Value) (i : ℕ) (v : Value) → drop i vs ≡ v ∷ drop (i + 1) vs
    → is_in b p (view v) ≡ true → is_in_some b p (items_view vs) ≡ true
in_some_at b p vs i v split is =
    in_some_from b p vs i
    (ap (λ (ws : List Value). is_in_some b p (items_view ws)) split
    ∙ first_holds (is_in b p (view v)) (is_in_some b p (items_view (drop (i + 1) vs))) is)

in_may : (gone : Items) (b : ℕ) (bytes : List ℕ) (p : ℕ) → is_in_some b p gone ≡ true
    → may_go gone b bytes p ≡ true
in_may gone b bytes p is = first_holds (is_in_some b p gone) (get_or bytes p 0 == 0) is

pub zero_may : (gone : Items) (b : ℕ) (bytes : List ℕ) (p : ℕ) → get_or bytes p 0 ≡ 0
    → may_go gone b bytes p ≡ true
zero_may gone b bytes p is =
    second_holds (is_in_some b p gone) (get_or bytes p 0 == 0) (ap (λ (n : ℕ). n == 0) is)

-- ---- places

pub holds_all : (f : ℕ → Bool) (e n : ℕ) → ((k : ℕ) → k < n → f (e + k) ≡ true)
    → holds_from f e n ≡ true
holds_all f e zero all = refl
holds_all f e (suc n) all =
    ap (λ (b : Bool). if b then holds_from f e n else false) (all n (omega arith))
    ∙ holds_all f e n (λ k h. all k (omega arith))

-- one view more
pub one_more : (ends places next : List ℕ) (buffers : List (List ℕ)) (vs : List Value) (i : ℕ)
    (v : Value) → drop i vs ≡ v ∷ drop (i + 1) vs → MayGoUpTo ends buffers (items_view vs) places
    → MayGoBy (view v) buffers places next → MayGoUpTo ends buffers (items_view vs) next
one_more ends places next buffers vs i v split far by b p low high =
    ⊎_elim (λ before. far b p low before)
    (λ behind. ⊎_elim
    (λ inside. in_may (items_view vs) b (get_or buffers b []) p
    (in_some_at b p vs i v split inside))
    (λ blank. zero_may (items_view vs) b (get_or buffers b []) p blank)
    (by b p behind high))
    (cases_lt p (get_or places b 0))

-- all behind an end
pub all_passed : (marks left : List Bool) (ends places : List ℕ) (buffers : List (List ℕ))
    (gone : Items) → MayGoUpTo ends buffers gone places → AreBlank marks buffers places left
    → ArePassed marks ends buffers gone left
all_passed marks left ends places buffers gone far blank b mark none =
    let e = get_or ends b 0 in
    let bytes = get_or buffers b [] in
    holds_all (may_go gone b bytes) e (length bytes - e)
    (λ k h. ⊎_elim (λ before. far b (e + k) (omega arith) before)
    (λ behind. zero_may gone b bytes (e + k) (blank b mark none (e + k) behind))
    (cases_lt (e + k) (get_or places b 0)))
