-- Walks over the handles of a document.
use Rattle.std.specs.Prelude.{ℕ, List, [], All, None, map, slice_index_or}
use Rattle.std.specs.Prelude.{slice_range}
use Rattle.gltf_json.specs.declared.root.Root.{Root}
use Rattle.gltf_rules.specs.declared.records.Records.{Ghosts}
use Rattle.gltf_handles.specs.Positions.{Position}
use Rattle.gltf_scene.specs.Nodes.{IsNode, node_handle}
use Rattle.gltf_scene.specs.declared.scene.iter.NamedNodes.{NamedNodes}
use Rattle.gltf_walk.specs.DepthFirst.{Visit, DepthFirst}
use Rattle.gltf_walk.specs.declared.step.Step.{Step}

-- the nodes that node n of a document names as its children: `children`, in stored order
abbrev pub children_lists : Root → List (List ℕ)
children_lists r = map (λ n. n.children.items) r.nodes.items

abbrev pub children_of : Root → ℕ → List ℕ
children_of r n = slice_index_or (children_lists r) n []

module _ {D : Type 0} {G : Ghosts D} where
  -- the document of a list of nodes, and the nodes that are left in it
  abbrev pub document_of : Position (NamedNodes D G) → Root
  document_of p = G.root p.source.document.now

  abbrev pub nodes_left : Position (NamedNodes D G) → List ℕ
  nodes_left p = slice_range p.source.nodes.now p.next p.end

  -- what a step shows
  abbrev pub visit : Step D G → Visit
  visit s = record {
    node = (node_handle s.node).index;
    parent = s.parent;
    depth = s.depth;
    again = s.again;
  }

  -- its node is a node of the document
  abbrev pub IsStep : Root → Step D G → Type 0
  IsStep r s = IsNode r (node_handle s.node).index s.node

  -- the steps are the walk over these nodes of a document
  pub record IsWalk (r : Root) (nodes : List ℕ) (steps : List (Step D G)) : Type 0 where
    pub order : DepthFirst (children_of r) [] None 0 nodes (map visit steps)
    pub handles : All (IsStep r) steps
