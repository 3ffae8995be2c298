-- From what a closure answered to what its answers give.
use Rattle.std.proofs.Common.{◌≡◌, ℕ, List, sym, subst}
use Rattle.std.specs.Prelude.{Option, Some, None, SomeIff, option_map}
use Rattle.gltf_json.specs.declared.root.Root.{Root}
use Rattle.gltf_json_animation.specs.declared.animation.Property.{Property}
use Rattle.gltf_json_geometry.specs.declared.accessor.Accessor.{Accessor}
use Rattle.gltf_items.specs.Counted.{CountedItems}
use Rattle.gltf_items.specs.declared.item.Item.{Ghosts}
use Rattle.gltf_data.specs.Answers.{Results, AlwaysAnswers}
use Rattle.gltf_data.specs.Documents.{accessor_at, IsReadable, items_of}
use Rattle.gltf_read.specs.Colors.{AreColors}
use Rattle.gltf_read.specs.Indices.{AreIndices}
use Rattle.gltf_read.specs.Kinds.{Kinds, OfKind, kind_of}
use Rattle.gltf_read.specs.Joints.{AreJoints}
use Rattle.gltf_read.specs.Laws.{IsByAnswers}
use Rattle.gltf_read.specs.Outputs.{AreOutputs}
use Rattle.gltf_read.specs.Reading.{Reading, Table, IsRead, ReadingAt, AreItems, type_of}
use Rattle.gltf_read.specs.Reading.{dimensions_of}
use Rattle.gltf_read.specs.TexCoords.{AreTexCoords}
use Rattle.gltf_read.specs.Weights.{AreWeights}
use Rattle.gltf_read.proofs.Rows.{colors_turned, indices_turned, joints_turned, outputs_turned}
use Rattle.gltf_read.proofs.Rows.{tex_coords_turned, weights_turned, kind_turned}

-- whatever the one reading says, the other says
abbrev pub TurnsAll : Reading → Reading → Type 1
TurnsAll R S = (X : Type 0) (t : Ghosts X) (read : Option (CountedItems X)) → R X t read
    → S X t read

-- the items of an accessor by a closure are those by its answers
answered : (Gives : Results) (r : Root) (answer : ℕ → Option (List ℕ))
    → AlwaysAnswers Gives r answer → (i : ℕ) (a : Accessor) → accessor_at r i ≡ Some a
    → TurnsAll (IsRead Gives r a) (ReadingAt r answer i)
answered Gives r answer always i a there X t read h =
    subst (λ x. SomeIff (option_map (λ c. c.items) read) (IsReadable t.size r answer x)
    (items_of t r answer x)) (sym there) (h.alike answer always)

by_answers : {E : Type 0} (Are : Table E)
    → ((R S : Reading) (a : Accessor) (result : Option E) → TurnsAll R S → Are R a result
    → Are S a result)
    → (Gives : Results) → IsByAnswers Are Gives
by_answers Are turned Gives r answer always None result h = h
by_answers Are turned Gives r answer always (Some i) result h = (
  h.0,
  h.1,
  turned (IsRead Gives r h.0) (ReadingAt r answer i) h.0 result
      (answered Gives r answer always i h.0 h.1) h.2,
)

pub items_by_answers : {X : Type 0} {t : Ghosts X} (Gives : Results)
    → IsByAnswers (AreItems {X = X} {t = t}) Gives
items_by_answers {X} {t} Gives =
    by_answers (AreItems {X = X} {t = t}) (λ R S a result turns h. turns X t _ h) Gives

pub colors_by_answers : (Gives : Results) → IsByAnswers AreColors Gives
colors_by_answers Gives =
    by_answers AreColors (λ R S a result turns.
    colors_turned R S (dimensions_of a) (type_of a) result (turns _ _) (turns _ _) (turns _ _)
    (turns _ _) (turns _ _) (turns _ _)) Gives

pub indices_by_answers : (Gives : Results) → IsByAnswers AreIndices Gives
indices_by_answers Gives =
    by_answers AreIndices (λ R S a result turns.
    indices_turned R S (type_of a) result (turns _ _) (turns _ _) (turns _ _)) Gives

pub joints_by_answers : (Gives : Results) → IsByAnswers AreJoints Gives
joints_by_answers Gives =
    by_answers AreJoints (λ R S a result turns.
    joints_turned R S (type_of a) result (turns _ _) (turns _ _)) Gives

pub tex_coords_by_answers : (Gives : Results) → IsByAnswers AreTexCoords Gives
tex_coords_by_answers Gives =
    by_answers AreTexCoords (λ R S a result turns.
    tex_coords_turned R S (type_of a) result (turns _ _) (turns _ _) (turns _ _)) Gives

pub weights_by_answers : (Gives : Results) → IsByAnswers AreWeights Gives
weights_by_answers Gives =
    by_answers AreWeights (λ R S a result turns.
    weights_turned R S (type_of a) result (turns _ _) (turns _ _) (turns _ _)) Gives

pub outputs_by_answers : (Gives : Results) (property : Option Property)
    → IsByAnswers (AreOutputs property) Gives
outputs_by_answers Gives property =
    by_answers (AreOutputs property) (λ R S a result turns.
    outputs_turned property R S (type_of a) result (turns _ _) (turns _ _) (turns _ _) (turns _ _)
    (turns _ _) (turns _ _) (turns _ _) (turns _ _) (turns _ _) (turns _ _) (turns _ _)) Gives

-- ---- where the items are of a type that is asked for

pub typed_items_by_answers : {X : Type 0} {t : Ghosts X} (Gives : Results) (kinds : Kinds)
    → IsByAnswers (OfKind kinds (AreItems {X = X} {t = t})) Gives
typed_items_by_answers {X} {t} Gives kinds =
    by_answers (OfKind kinds (AreItems {X = X} {t = t})) (λ R S a result turns h.
    kind_turned (kind_of kinds a) (result ≡ None) (λ read. turns X t _ read) h) Gives

pub typed_indices_by_answers : (Gives : Results) (kinds : Kinds)
    → IsByAnswers (OfKind kinds AreIndices) Gives
typed_indices_by_answers Gives kinds =
    by_answers (OfKind kinds AreIndices) (λ R S a result turns h.
    kind_turned (kind_of kinds a) (result ≡ None)
    (λ read. indices_turned R S (type_of a) result (turns _ _) (turns _ _) (turns _ _) read) h)
    Gives
