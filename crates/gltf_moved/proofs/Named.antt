-- The views and the buffers that a document names are there, where no rule is broken but those of
-- required extensions.
use Rattle.std.proofs.Common.{◌≡◌, ◌<◌, ℕ, zero, suc, ◌+◌, List, [], ◌∷◌, length, Option, Some}
use Rattle.std.proofs.Common.{None, subst}
use Rattle.std.proofs.lemmas.Bool.{ltb-true}
use Rattle.std.specs.Prelude.{◌↔◌, MatchOption, slice_get, ⊤}
use Rattle.gltf_json.specs.declared.root.Root.{Root}
use Rattle.gltf_json_geometry.specs.declared.accessor.Accessor.{Accessor}
use Rattle.gltf_json_geometry.specs.declared.accessor.sparse.Sparse.{Sparse}
use Rattle.gltf_json_geometry.specs.declared.buffer.View.{View}
use Rattle.gltf_validation.specs.Accessors.{accessor_rules, sparse_rules}
use Rattle.gltf_validation.specs.Buffers.{view_rules}
use Rattle.gltf_validation.specs.Documents.{Faults, counts_of, root_rules}
use Rattle.gltf_validation.specs.Members.{elements_rules, index_rules, optional_rules}
use Rattle.gltf_validation.specs.Rules.{Rules, Hold}
use Rattle.gltf_validation.specs.declared.counts.Counts.{Counts}
use Rattle.gltf_moved.specs.Laws.{BreaksNoOther}

-- the rules of a list hold of each element
each_holds : {T : Type 0} (rules : T → Rules) (i : ℕ) (xs : List T) (k : ℕ) (x : T)
    → Hold (elements_rules rules i xs) → slice_get xs k ≡ Some x → Hold (rules x)
each_holds rules i [] k x hold there = cc
each_holds rules i (y ∷ xs) zero x hold there =
    let same : y ≡ x = cc in subst (λ y. Hold (rules y)) same hold.0
each_holds rules i (y ∷ xs) (suc k) x hold there = each_holds rules (i + 1) xs k x hold.1 there

below : (count i : ℕ) → Hold (index_rules count i) → i < count
below count i hold = ltb-true i count hold

-- the views of an accessor and of its sparse part are there
pub record IsNamed (count : ℕ) (a : Accessor) (x : Option Sparse) : Type 0 where
  pub base : MatchOption a.buffer_view ⊤ (λ i. i < count)
  pub indices : MatchOption x ⊤ (λ x. x.indices.buffer_view < count)
  pub values : MatchOption x ⊤ (λ x. x.values.buffer_view < count)

below_if : (count : ℕ) (o : Option ℕ) → Hold (optional_rules (index_rules count) o)
    → MatchOption o ⊤ (λ i. i < count)
below_if count None hold = tt
below_if count (Some i) hold = below count i hold

indices_named : (c : Counts) (x : Option Sparse) → Hold (optional_rules (sparse_rules c) x)
    → MatchOption x ⊤ (λ x. x.indices.buffer_view < c.views)
indices_named c None hold = tt
indices_named c (Some x) hold = below c.views x.indices.buffer_view hold.1.0.0

values_named : (c : Counts) (x : Option Sparse) → Hold (optional_rules (sparse_rules c) x)
    → MatchOption x ⊤ (λ x. x.values.buffer_view < c.views)
values_named c None hold = tt
values_named c (Some x) hold = below c.views x.values.buffer_view hold.1.1.0

accessor_named : (c : Counts) (a : Accessor) → Hold (accessor_rules c a)
    → IsNamed c.views a a.sparse
accessor_named c a hold = record {
  base = below_if c.views a.buffer_view hold.0;
  indices = indices_named c a.sparse hold.1.1.1.1.1;
  values = values_named c a.sparse hold.1.1.1.1.1;
}

-- the law, as `gltf_validation` has it
abbrev pub AllHold : Type 0
AllHold = (r : Root) → (Faults r ≡ []) ↔ Hold (root_rules (counts_of r) r)

module _ (law : AllHold) (r : Root) (rules : BreaksNoOther r) where
  abbrev left : Root
  left = rules.0

  holds : Hold (root_rules (counts_of left) left)
  holds = (law left).0 rules.1

  of_accessors : Hold (elements_rules (accessor_rules (counts_of r)) 0 r.accessors.items)
  of_accessors =
      subst (λ (x : Root).
      Hold (elements_rules (accessor_rules (counts_of x)) 0 x.accessors.items)) rules.2 holds.0.0

  of_views : Hold (elements_rules (view_rules (counts_of r)) 0 r.buffer_views.items)
  of_views =
      subst (λ (x : Root).
      Hold (elements_rules (view_rules (counts_of x)) 0 x.buffer_views.items)) rules.2
      holds.0.1.1.1.0

  pub named : (k : ℕ) (a : Accessor) → slice_get r.accessors.items k ≡ Some a
      → IsNamed (length r.buffer_views.items) a a.sparse
  named k a there =
      accessor_named (counts_of r) a
      (each_holds (accessor_rules (counts_of r)) 0 r.accessors.items k a
      of_accessors there)

  pub buffer_named : (k : ℕ) (v : View) → slice_get r.buffer_views.items k ≡ Some v
      → v.buffer < length r.buffers.items
  buffer_named k v there =
      below (length r.buffers.items) v.buffer
      (each_holds (view_rules (counts_of r)) 0 r.buffer_views.items k v
      of_views there).0
