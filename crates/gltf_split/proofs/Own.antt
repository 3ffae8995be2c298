-- The bytes of an image, out of its view or by its URI.
use Rattle.std.proofs.Common.{◌≡◌, ℕ, List, Option, Some, None, Ok, sym, subst, codes}
use Rattle.std.specs.Prelude.{MatchOption}
use Rattle.serde_json.specs.Data.{Data}
use Rattle.gltf_edit.specs.Bundled.{size_at}
use Rattle.gltf_buffers.specs.Buffers.{IsMeant}
use Rattle.gltf_buffers.specs.Names.{Names}
use Rattle.gltf_buffers.specs.Uri.{uri_of}
use Rattle.gltf_bundle.specs.Images.{text_at}
use Rattle.gltf_split.specs.Images.{IsLinked, HasBytes}
use Rattle.gltf_split.specs.Views.{view_bytes}

module _ (names : Names) (buffers : List (List ℕ)) (document d : Data) (bytes : List ℕ) where
  abbrev of_choice : Option ℕ → Type 0
  of_choice o =
      MatchOption o (IsLinked names d bytes) (λ v. view_bytes buffers document v ≡ Some bytes)

  pub of_view : (v : ℕ) → size_at (codes "bufferView") d ≡ Some v
      → view_bytes buffers document v ≡ Some bytes → HasBytes names buffers document d bytes
  of_view v is viewed = subst of_choice (sym is) viewed

  pub of_uri : (uri : List ℕ) → size_at (codes "bufferView") d ≡ None
      → text_at (codes "uri") d ≡ Some uri → IsMeant names (uri_of uri) (Ok bytes)
      → HasBytes names buffers document d bytes
  of_uri uri none there meant =
      subst of_choice (sym none) record { uri = uri; there = there; meant = meant }
