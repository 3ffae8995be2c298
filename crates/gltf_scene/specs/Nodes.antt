-- Handles of nodes, and lists of them.
use Rattle.std.specs.Prelude.{◌≡◌, ℕ, List, length, slice_get, Option, Some, None, IsSomeAnd}
use Rattle.std.specs.Option.{option_copied, option_and_then, option_map}
use Rattle.gltf_json.specs.declared.root.Root.{Root}
use Rattle.gltf_json_scene.specs.declared.scene.Node.{Node as NodeRecord}
use Rattle.gltf_rules.specs.declared.records.Records.{Ghosts}
use Rattle.gltf_handles.specs.Handle.{Handle, IsAt}
use Rattle.gltf_handles.specs.Inner.{handle_at}
use Rattle.gltf_handles.specs.Positions.{Position, IsWhole}
use Rattle.gltf_scene.specs.declared.scene.Node.{Node}
use Rattle.gltf_scene.specs.declared.scene.Transform.{Transform}
use Rattle.gltf_scene.specs.declared.scene.Transform.TheVariants.{Matrix, Decomposed}
use Rattle.gltf_scene.specs.declared.scene.iter.NamedNodes.{NamedNodes}

module _ {D : Type 0} {G : Ghosts D} where
  -- what they show
  abbrev pub node_handle : Node D G → Handle NodeRecord
  node_handle n = handle_at n.inner n.index

  -- the handle of node i of a document
  abbrev pub IsNode : Root → ℕ → Node D G → Type 0
  IsNode r i n = IsAt r.nodes.items r i (node_handle n)

  -- the handle of the node that element i of a list of indices names
  abbrev pub IsNamed : Root → List ℕ → ℕ → Node D G → Type 0
  IsNamed r nodes i n = IsSomeAnd (slice_get nodes i) (λ k. IsNode r k n)

  -- the nodes that a list of indices names, all of them, in stored order
  abbrev pub AreNamed : Root → List ℕ → Position (NamedNodes D G) → Type 0
  AreNamed r nodes p =
      IsWhole (λ s. (G.root s.document.now ≡ r) × (s.nodes.now ≡ nodes)) (length nodes) p

-- the light at a node, as the extension names it (KHR_lights_punctual)
abbrev pub light_index : NodeRecord → Option ℕ
light_index n =
    option_map (λ e. e.light) (option_and_then (λ e. e.khr_lights_punctual) n.extensions)

-- the matrix where the node has one, and else the three parts as they stand (glTF 2.0, section
-- 3.5.3, "Transformations")
abbrev pub IsTransform : NodeRecord → Transform → Type 0
IsTransform n (Matrix matrix) = n.matrix ≡ Some matrix.now
IsTransform n (Decomposed translation rotation scale) =
    (n.matrix ≡ None)
    × (option_copied translation ≡ n.translation)
    × (option_copied rotation ≡ n.rotation)
    × (option_copied scale ≡ n.scale)
