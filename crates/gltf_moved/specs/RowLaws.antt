-- What a row of a table reads is what the edit of a document reads at the same name; what a list
-- has at an index is read of the item there.
use Rattle.std.proofs.Common.{◌≡◌, ℕ, zero, suc, ◌^◌, List, [], ◌∷◌, Option, Some, None, Bool, true}
use Rattle.std.proofs.Common.{false, nat_lt, refl, sym, subst, unwrap_or}
use Rattle.std.specs.Prelude.{MatchOption, option_and_then, slice_get, if◌then◌else◌}
use Rattle.serde_json.specs.Data.{Data, null, boolean, number, string, array, object, Items}
use Rattle.serde_json.specs.Data.{no_items, item}
use Rattle.serde_json.specs.Find.{get, get_item, at, as_array, as_number, as_u64}
use Rattle.gltf_json_record.specs.Items.{AllRead}
use Rattle.gltf_json_record.specs.Member.{member_at, unless_null}
use Rattle.gltf_json_record.specs.Scalars.{as_size, as_n32}
use Rattle.gltf_edit.specs.Bundled.{size_at}

required_in : (n : ℕ) (o : Option Data)
    → MatchOption (option_and_then unless_null o) ⊥ (λ e. as_size e ≡ Some n)
    → option_and_then as_u64 (option_and_then as_number o) ≡ Some n
required_in n None is = absurd is
required_in n (Some null) is = absurd is
required_in n (Some (boolean b)) is = is
required_in n (Some (number x)) is = is
required_in n (Some (string s)) is = is
required_in n (Some (array ds)) is = is
required_in n (Some (object ms)) is = is

-- a member that has to be there
pub required_size : (name : List ℕ) (d : Data) (n : ℕ)
    → MatchOption (member_at name d) ⊥ (λ e. as_size e ≡ Some n) → size_at name d ≡ Some n
required_size name d n is = required_in n (get name d) is

below : (m n : ℕ) (b : Bool) → ◌≡◌ {A = Option ℕ} (if b then Some m else None) (Some n)
    → ◌≡◌ {A = Option ℕ} (Some m) (Some n)
below m n true is = is
below m n false is = cc

from_n32 : (n : ℕ) (o : Option ℕ)
    → option_and_then (λ n. if nat_lt n (2 ^ 32) then Some n else None) o ≡ Some n → o ≡ Some n
from_n32 n None is = cc
from_n32 n (Some m) is = below m n (nat_lt m (2 ^ 32)) is

weaker : (o : Option Data) (P Q : Data → Type 0) → ((e : Data) → P e → Q e)
    → MatchOption o ⊥ P → MatchOption o ⊥ Q
weaker None P Q gives is = is
weaker (Some e) P Q gives is = gives e is

-- an index that has to be there
pub required_index : (name : List ℕ) (d : Data) (n : ℕ)
    → MatchOption (member_at name d) ⊥ (λ e. as_n32 e ≡ Some n) → size_at name d ≡ Some n
required_index name d n is =
    required_size name d n
    (weaker (member_at name d) (λ e. as_n32 e ≡ Some n) (λ e. as_size e ≡ Some n)
    (λ e. from_n32 n (as_size e)) is)

there : (e : Data) (f : Option ℕ) → MatchOption f ⊥ (λ n. as_size e ≡ Some n) → as_size e ≡ f
there e None is = absurd is
there e (Some n) is = is

optional_in : (f : Option ℕ) (o : Option Data)
    → MatchOption (option_and_then unless_null o) (f ≡ None)
    (λ e. MatchOption f ⊥ (λ n. as_size e ≡ Some n))
    → option_and_then as_u64 (option_and_then as_number o) ≡ f
optional_in f None is = sym is
optional_in f (Some null) is = sym is
optional_in f (Some (boolean b)) is = there (boolean b) f is
optional_in f (Some (number x)) is = there (number x) f is
optional_in f (Some (string s)) is = there (string s) f is
optional_in f (Some (array ds)) is = there (array ds) f is
optional_in f (Some (object ms)) is = there (object ms) f is

-- a member that may be absent
pub optional_size : (name : List ℕ) (d : Data) (f : Option ℕ)
    → MatchOption (member_at name d) (f ≡ None) (λ e. MatchOption f ⊥ (λ n. as_size e ≡ Some n))
    → size_at name d ≡ f
optional_size name d f is = optional_in f (get name d) is

both : (o : Option Data) (f : Option ℕ)
    → MatchOption o (f ≡ None) (λ e. MatchOption f ⊥ (λ n. as_n32 e ≡ Some n))
    → MatchOption o (f ≡ None) (λ e. MatchOption f ⊥ (λ n. as_size e ≡ Some n))
both None f is = is
both (Some e) None is = is
both (Some e) (Some n) is = from_n32 n (as_size e) is

-- an index that may be absent
pub optional_index : (name : List ℕ) (d : Data) (f : Option ℕ)
    → MatchOption (member_at name d) (f ≡ None) (λ e. MatchOption f ⊥ (λ n. as_n32 e ≡ Some n))
    → size_at name d ≡ f
optional_index name d f is = optional_size name d f (both (member_at name d) f is)

-- ---- lists

-- what a row reads as a list
abbrev pub ReadsList : {T : Type 0} → (Data → T → Type 0) → Option Data → List T → Type 0
ReadsList P o xs = MatchOption (option_and_then unless_null o) (xs ≡ [])
    (λ e. MatchOption (as_array e) ⊥ (λ ds. AllRead P ds xs))

-- what is read at an index comes from an item there
pub record ComesFrom {T : Type 0} (P : Data → T → Type 0) (o : Option Data) (x : T) (i : ℕ)
    : Type 0 where
  pub from : Data
  pub there : option_and_then (at i) o ≡ Some from
  pub listed : get_item i (unwrap_or (option_and_then as_array o) no_items) ≡ Some from
  pub reads : P from x

item_of : {T : Type 0} (P : Data → T → Type 0) (ds : Items) (xs : List T) (i : ℕ) (x : T)
    → AllRead P ds xs → slice_get xs i ≡ Some x
    → (d : Data) × (get_item i ds ≡ Some d) × P d x
item_of P no_items [] i x is there = cc
item_of P no_items (y ∷ ys) i x is there = absurd is
item_of P (item d ds) [] i x is there = cc
item_of P (item d ds) (y ∷ ys) zero x is there =
    let same : y ≡ x = cc in (d, refl, subst (λ y. P d y) same is.0)
item_of P (item d ds) (y ∷ ys) (suc i) x is there = item_of P ds ys i x is.1 there

none_there : {T : Type 0} (P : Data → T → Type 0) (o : Option Data) (xs : List T) (i : ℕ) (x : T)
    → xs ≡ [] → slice_get xs i ≡ Some x → ComesFrom P o x i
none_there P o [] i x none there = cc
none_there P o (y ∷ ys) i x none there = cc

pub comes_from : {T : Type 0} (P : Data → T → Type 0) (o : Option Data) (xs : List T) (i : ℕ)
    (x : T) → ReadsList P o xs → slice_get xs i ≡ Some x → ComesFrom P o x i
comes_from P None xs i x is there = none_there P None xs i x is there
comes_from P (Some null) xs i x is there = none_there P (Some null) xs i x is there
comes_from P (Some (boolean b)) xs i x is there = absurd is
comes_from P (Some (number n)) xs i x is there = absurd is
comes_from P (Some (string s)) xs i x is there = absurd is
comes_from P (Some (array ds)) xs i x is there =
    let found = item_of P ds xs i x is there in
    record { from = found.0; there = found.1; listed = found.1; reads = found.2 }
comes_from P (Some (object ms)) xs i x is there = absurd is
