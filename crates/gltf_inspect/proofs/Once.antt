-- Where no node is a child twice, no second parent is found.
use Rattle.std.proofs.Common.{◌≡◌, ℕ, ◌+◌, false, List, [], ◌∷◌, ◌++◌, refl, ◌∙◌, ap, subst, codes}
use Rattle.std.proofs.lemmas.List.{append-nil}
use Rattle.gltf_json_record.specs.Place.{Place, named, numbered}
use Rattle.gltf_json_scene.specs.declared.scene.Node.{Node}
use Rattle.gltf_findings.specs.declared.code.Code.{Code}
use Rattle.gltf_findings.specs.Checks.{told_after}
use Rattle.gltf_inspect_nodes.specs.Hierarchies.{AreNamedOnce}
use Rattle.gltf_inspect_nodes.specs.Named.{all_named, children_of}
use Rattle.gltf_inspect_nodes.specs.OnceLaws.{OnceAfter, first_part, last_part}
use Rattle.gltf_inspect.specs.Parents.{is_named_before, children_checks, parents_checks}

children_told : (count : ℕ) (before : List ℕ) (k : ℕ) (children : List ℕ)
    (told : List (List Place × Code)) (path : List Place) → OnceAfter count before children
    → told_after told path (children_checks count before k children) ≡ told
children_told count before k [] told path h = refl
children_told count before k (c ∷ cs) told path h =
    let new : is_named_before count before c ≡ false =
    subst (λ ns. is_named_before count ns c ≡ false) (append-nil before) (h [] cs c refl) in
    rw new
    (children_told count (before ++ c ∷ []) (k + 1) cs told path
    (last_part count before (c ∷ []) cs h))

parents_told : (count : ℕ) (before : List ℕ) (i : ℕ) (ns : List Node)
    (told : List (List Place × Code)) (path : List Place)
    → OnceAfter count before (all_named children_of ns)
    → told_after told path (parents_checks count before i ns) ≡ told
parents_told count before i [] told path h = refl
parents_told count before i (n ∷ ns) told path h =
    let here = children_told count before 0 n.children.items told
    ((path ++ numbered i ∷ []) ++ named (codes "children") ∷ [])
    (first_part count before n.children.items (all_named children_of ns) h) in
    let others = parents_told count (before ++ n.children.items) (i + 1) ns told path
    (last_part count before n.children.items (all_named children_of ns) h) in
    ap (λ t. told_after t path (parents_checks count (before ++ n.children.items) (i + 1) ns)) here
    ∙ others

pub nothing_told : (count : ℕ) (ns : List Node) (told : List (List Place × Code))
    (path : List Place) → AreNamedOnce count (all_named children_of ns)
    → told_after told path (parents_checks count [] 0 ns) ≡ told
nothing_told count ns told path h = parents_told count [] 0 ns told path h
