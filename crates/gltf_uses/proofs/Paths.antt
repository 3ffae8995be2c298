-- The walk that looks for one element keeps the paths of the members that name it.
use Rattle.std.proofs.Common.{◌≡◌, true, false, if◌then◌else◌, cond, List, [], ◌∷◌, ◌++◌, map}
use Rattle.std.proofs.Common.{sym, ◌∙◌}
use Rattle.std.specs.List.{filter}
use Rattle.std.proofs.lemmas.List.{append_assoc, append-nil}
use Rattle.gltf_json_record.specs.Place.{Place}
use Rattle.gltf_uses.specs.References.{Found, names, paths_after}
use Rattle.gltf_uses.specs.Uses.{Held}
use Rattle.gltf_uses.proofs.Folds.{after_each}

-- the paths of those members among some
abbrev pub named : Found → List Held → List (List Place)
named f hs = map (λ h. h.path) (filter (names f.kind f.index) hs)

pub paths_each : (f : Found) (hs : List Held)
    → (after_each paths_after f hs).paths ≡ f.paths ++ named f hs
paths_each f [] = sym (append-nil f.paths)
paths_each f (h ∷ hs) =
    let more : Found = record f { paths = f.paths ++ h.path ∷ [] } in
    let taken : (after_each paths_after more hs).paths ≡ f.paths ++ h.path ∷ named f hs =
    paths_each more hs ∙ append_assoc f.paths (h.path ∷ []) (named f hs) in
    elim (names f.kind f.index h) as (λ b.
    (after_each paths_after (if b then more else f) hs).paths
    ≡ f.paths ++ map (λ h. h.path) (cond b (h ∷ filter (names f.kind f.index) hs) (filter
    (names f.kind f.index) hs)))
    [ true ↦ taken | false ↦ paths_each f hs ]
