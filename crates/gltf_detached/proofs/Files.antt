-- The buffers that a document is imported with, where a source has their files.
use Rattle.std.proofs.Common.{◌≡◌, ℕ, zero, suc, ◌<◌, List, [], ◌∷◌, length, map, Bool, true, false}
use Rattle.std.proofs.Common.{Option, Some, None, option_map, Ok, Err, Result, refl, sym, ap, subst}
use Rattle.std.proofs.Common.{◌∙◌}
use Rattle.std.proofs.Common.{arith, get_or, slice_get, nat_lt, string_bytes}
use Rattle.std.proofs.lemmas.Option.{slice_get-map}
use Rattle.std.specs.Prelude.{if◌then◌else◌, IsSome}
use Rattle.gltf_json.specs.declared.root.Root.{Root}
use Rattle.gltf_json_geometry.specs.declared.buffer.Buffer.{Buffer}
use Rattle.gltf_names.specs.Named.{Named, Relative}
use Rattle.gltf_buffers.specs.Buffers.{Source, source_of, sources_of, AreBytes, IsBytesOf, name_at}
use Rattle.gltf_buffers.specs.Buffers.{bytes_of, blob_for, checked_bytes, filled_bytes, meant_bytes}
use Rattle.gltf_buffers.specs.Buffers.{long_enough, BufferFault, TooShort}
use Rattle.gltf_buffers.specs.Names.{Held, MayBeGiven, name_of}
use Rattle.gltf_buffers.specs.Padding.{padded}
use Rattle.gltf_buffers.specs.Uri as uri
use Rattle.gltf_detach.specs.Naming.{uri_of_part}
use Rattle.gltf_detach.specs.declared.part.Part.{Part}
use Rattle.gltf_detached.specs.Laws.{LeadToNames, ReadsFiles, HasUri, HoldsPart, padded_part}

-- ---- lists

same_lists : (xs ys : List (List ℕ)) → length xs ≡ length ys
    → ((i : ℕ) → i < length ys → get_or xs i [] ≡ get_or ys i []) → xs ≡ ys
same_lists [] [] long same = refl
same_lists [] (y ∷ ys) long same = absurd (omega arith)
same_lists (x ∷ xs) [] long same = absurd (omega arith)
same_lists (x ∷ xs) (y ∷ ys) long same =
    ap (λ (z : List ℕ). z ∷ xs) (same 0 (omega arith))
    ∙ ap (λ (zs : List (List ℕ)). y ∷ zs)
    (same_lists xs ys (omega arith) (λ i h. same (suc i) (omega arith)))

length_of_map : {A B : Type 0} (f : A → B) (xs : List A) → length (map f xs) ≡ length xs
length_of_map f [] = refl
length_of_map f (x ∷ xs) = ap suc (length_of_map f xs)

-- the element at an index
record At (ps : List Part) (i : ℕ) : Type 0 where
  part : Part
  there : slice_get ps i ≡ Some part
  is : get_or (map padded_part ps) i [] ≡ padded_part part

at : (ps : List Part) (i : ℕ) → i < length ps → At ps i
at [] i h = absurd (omega arith)
at (p ∷ ps) zero h = record { part = p; there = refl; is = refl }
at (p ∷ ps) (suc i) h =
    let later = at ps i (omega arith) in
    record { part = later.part; there = later.there; is = later.is }

-- ---- one file

of_ok : (b : Bool) (i declared : ℕ) (bytes x : List ℕ)
    → ◌≡◌ {A = Result (List ℕ) BufferFault}
    (if b then Err (TooShort i declared (length bytes)) else Ok bytes) (Ok x) → x ≡ bytes
of_ok true i declared bytes x is = cc
of_ok false i declared bytes x is = let same : bytes ≡ x = cc in sym same

given_is : (there : Named → Option (List ℕ)) (name : Named) (bytes : List ℕ)
    (given : Option (List ℕ)) → there name ≡ Some bytes
    → MayBeGiven (Held there) (Some name) given → given ≡ Some bytes
given_is there name bytes given holds may = sym may.1 ∙ holds

module _ (lead : LeadToNames) (there : Named → Option (List ℕ)) (p : Part)
    (holds : HoldsPart there p) where
  file_at : (blob : Option (List ℕ)) (i : ℕ) (source : Source) (x : List ℕ)
      → source.uri ≡ Some (uri_of_part p) → IsBytesOf (Held there) blob i source (Ok x)
      → x ≡ padded_part p
  unfolding bytes_of
  file_at blob i source x is_uri is =
      let name = Relative (string_bytes p.name) in
      let named : name_at source.uri ≡ Some name =
      ap name_at is_uri ∙ ap name_of (lead p) in
      let given : is.given ≡ Some p.bytes.items =
      given_is there name p.bytes.items is.given holds
      (subst (λ (o : Option Named). MayBeGiven (Held there) o is.given) named is.may) in
      of_ok (nat_lt (length (padded_part p)) source.declared) i source.declared (padded_part p) x
      (rw (is_uri, given, lead p) at is.is)

-- ---- all files

pub reads_files : LeadToNames → ReadsFiles
reads_files lead ps s count named there holds blob others are =
    let long : length (sources_of s) ≡ length ps =
    length_of_map source_of s.buffers.items ∙ count in
    same_lists others (map padded_part ps)
    (are.count ∙ long ∙ sym (length_of_map padded_part ps))
    (λ i h.
    let within : i < length ps = subst (λ (n : ℕ). i < n) (length_of_map padded_part ps) h in
    let found = at ps i within in
    let uri = named i found.part found.there in
    let source : slice_get (sources_of s) i ≡ Some (source_of uri.buffer) =
    slice_get-map source_of s.buffers.items i ∙ ap (option_map source_of) uri.there in
    file_at lead there found.part (holds i found.part found.there)
    (blob_for (sources_of s) blob i) i (source_of uri.buffer) (get_or others i []) uri.uri
    (are.each i (source_of uri.buffer) (subst (λ (n : ℕ). i < n) (sym long) within) source)
    ∙ sym found.is)
