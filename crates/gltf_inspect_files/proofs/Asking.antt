-- Which names were asked for where a file was looked at, and which buffers share their bytes.
use Rattle.std.proofs.Common.{◌≡◌, ℕ, List, [], ◌∷◌, refl, sym, subst, Option}
use Rattle.std.specs.Prelude.{OnOk, Result, Ok, Err, MatchOption, map, ⊤}
use Rattle.std.specs.List.{AllByRecursion}
use Rattle.gltf_json.specs.declared.root.Root.{Root}
use Rattle.gltf_names.specs.Named.{Named}
use Rattle.gltf_buffers.specs.Buffers.{sources_of}
use Rattle.gltf.specs.Import.{IsDocument}
use Rattle.gltf_shared.specs.Asked.{AsksOnce, IsNamedBy}
use Rattle.gltf_shared.specs.Shared.{AreShared}
use Rattle.gltf_shared.specs.Shown.{bytes_of_each}
use Rattle.gltf_inspect_files.specs.declared.lent.Lent.{Lent}
use Rattle.gltf_inspect_files.specs.Asking.{IsNameOf, AsksOnceOf}
use Rattle.gltf_inspect_files.specs.Layers.{IsShared}

pub none_asked : {S : Type 0} (asks : S → Named → S → Type 0) (r : Root) (state : S)
    → AsksOnce asks (sources_of r) state state
none_asked asks r state = record { names = []; once = tt; named = tt; asked = refl }

pub none_asked_of : {S : Type 0} (asks : S → Named → S → Type 0) (bytes : List ℕ) (state : S)
    → AsksOnceOf asks bytes state state
none_asked_of asks bytes state = record { names = []; once = tt; named = tt; asked = refl }

each_named : (bytes : List ℕ) (r : Root) (blob : Option (List ℕ)) → IsDocument bytes r blob
    → (names : List Named) → AllByRecursion (IsNamedBy (sources_of r)) names
    → AllByRecursion (IsNameOf bytes) names
each_named bytes r blob is [] named = tt
each_named bytes r blob is (name ∷ names) named =
    ((r, blob, is, named.0), each_named bytes r blob is names named.1)

of_document : {S : Type 0} (asks : S → Named → S → Type 0) (bytes : List ℕ) (r : Root)
    (blob : Option (List ℕ)) (old new : S) → IsDocument bytes r blob
    → AsksOnce asks (sources_of r) old new → AsksOnceOf asks bytes old new
of_document asks bytes r blob old new is once = record {
  names = once.names;
  once = once.once;
  named = each_named bytes r blob is once.names once.named;
  asked = once.asked;
}

on_ok : {X E : Type 0} (made : Result X E) (P Q : Type 0) → (P → Q) → OnOk made P → OnOk made Q
on_ok (Ok x) P Q leads is = leads is
on_ok (Err e) P Q leads is = tt

pub always : {X E : Type 0} (made : Result X E) (P : Type 0) → P → OnOk made P
always (Ok x) P is = is
always (Err e) P is = tt

-- of a document that was looked at, its bytes
pub asked_of : {X E S : Type 0} (asks : S → Named → S → Type 0) (bytes : List ℕ) (r : Root)
    (blob : Option (List ℕ)) (old new : S) (made : Result X E) → IsDocument bytes r blob
    → OnOk made (AsksOnce asks (sources_of r) old new)
    → OnOk made (AsksOnceOf asks bytes old new)
asked_of asks bytes r blob old new made is once =
    on_ok made (AsksOnce asks (sources_of r) old new) (AsksOnceOf asks bytes old new)
    (of_document asks bytes r blob old new is) once

-- a file that has what another one has
pub shared_as : (file whole : Lent) → whole.imported ≡ file.imported → IsShared file
    → IsShared whole
shared_as file whole same is =
    subst (λ imported. MatchOption imported ⊤ (λ read. AreShared (sources_of read.0)
    (map Ok (bytes_of_each read.1.items)))) (sym same) is
