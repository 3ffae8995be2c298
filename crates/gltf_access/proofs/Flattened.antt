-- All bytes of an accessor in a room of their size.
use Rattle.std.proofs.Common.{◌≡◌, ℕ, ◌*◌, ◌≤◌, List, [], ◌++◌, length, drop, refl, sym, ap, ◌∙◌}
use Rattle.std.proofs.Common.{subst}
use Rattle.std.proofs.Common.{Bool, true, false, true≢false}
use Rattle.std.specs.Prelude.{Option, Some, None, Result, Ok, Err, nat_le, MatchBool}
use Rattle.std.specs.List.{concat}
use Rattle.std.proofs.Math.Nat.{le_refl}
use Rattle.std.proofs.Math.Seq.{drop-length}
use Rattle.std.proofs.lemmas.Bool.{le-leb}
use Rattle.std.proofs.lemmas.List.{append-nil}
use Rattle.gltf_json.specs.declared.root.Root.{Root}
use Rattle.gltf_json_geometry.specs.declared.accessor.Accessor.{Accessor}
use Rattle.gltf_data.specs.Answers.{Results, Reads, ReadsAlike}
use Rattle.gltf_access.specs.Flat.{as_bytes, IsFlat, IsFlatIn, IsWritten}
use Rattle.gltf_access.specs.declared.flat.NotWritten.{NotWritten}
use Rattle.gltf_access.specs.declared.flat.NotWritten.TheVariants.{Unreadable}
use Rattle.gltf_access.proofs.Counts.{count_of}

-- where there is room for all, all were written
fits : (b : Bool) (P Q : Type 0) → b ≡ true → MatchBool b P Q → P
fits true P Q is written = written
fits false P Q is written = absurd (true≢false (sym is))

differ : (result : Result ℕ NotWritten) (k : ℕ) (e : NotWritten) → result ≡ Ok k → result ≡ Err e
    → ⊥
differ result k e ok err = cc

module _ (Gives : Results) (n : ℕ) (r : Root) (a : Accessor) (result : Result ℕ NotWritten)
    (old new : List ℕ) (room : length old ≡ a.count * n) where
  whole : (xs : List (List ℕ)) → Reads Gives (as_bytes n) r a (Some xs)
      → IsWritten n (Some xs) result old new → (result ≡ Ok (length old)) × (new ≡ concat xs)
  whole xs reads written =
      let size : length xs * n ≡ length old =
      ap (λ (k : ℕ). k * n) (count_of (as_bytes n) r a xs reads) ∙ sym room in
      let enough : nat_le (length xs * n) (length old) ≡ true =
      le-leb _ _ (subst (λ (k : ℕ). k ≤ length old) (sym size) (le_refl (length old))) in
      let all = fits (nat_le (length xs * n) (length old)) _ _ enough written in
      let none : drop (length xs * n) old ≡ [] =
      ap (λ (k : ℕ). drop k old) size ∙ drop-length old in (
        all.0 ∙ ap Ok size,
        all.1 ∙ ap (λ (z : List ℕ). concat xs ++ z) none ∙ append-nil (concat xs),
      )

  flat_some : (k : ℕ) → result ≡ Ok k → (o : Option (List (List ℕ)))
      → Reads Gives (as_bytes n) r a o → ReadsAlike Gives (as_bytes n) r a o
      → IsWritten n o result old new → IsFlat Gives n r a (Some new)
  flat_some k is None reads alike written = absurd (differ result k Unreadable is written.0)
  flat_some k is (Some xs) reads alike written = record {
    items = Some xs;
    reads = reads;
    alike = alike;
    flat = ap Some (whole xs reads written).1;
  }

  flat_none : (e : NotWritten) → result ≡ Err e → (o : Option (List (List ℕ)))
      → Reads Gives (as_bytes n) r a o → ReadsAlike Gives (as_bytes n) r a o
      → IsWritten n o result old new → IsFlat Gives n r a None
  flat_none e is None reads alike written =
      record { items = None; reads = reads; alike = alike; flat = refl }
  flat_none e is (Some xs) reads alike written =
      absurd (differ result (length old) e (whole xs reads written).0 is)

  pub written : (k : ℕ) → result ≡ Ok k → IsFlatIn Gives n r a result old new
      → IsFlat Gives n r a (Some new)
  written k is w = flat_some k is w.items w.reads w.alike w.written

  pub not_written : (e : NotWritten) → result ≡ Err e → IsFlatIn Gives n r a result old new
      → IsFlat Gives n r a None
  not_written e is w = flat_none e is w.items w.reads w.alike w.written
