-- The report of a file whose layers were looked at, and then its items.
use Rattle.std.proofs.Common.{◌≡◌, ◌++◌, ℕ, List, length, sym, ap, ◌∙◌, subst}
use Rattle.std.specs.Prelude.{Option, Some, None, MatchOption, unwrap_or}
use Rattle.gltf_json.specs.declared.root.Root.{Root}
use Rattle.gltf_glb.specs.declared.error.Error.{Error}
use Rattle.gltf_buffers.specs.Names.{Names}
use Rattle.gltf_inspect_files.specs.declared.lent.Lent.{Lent}
use Rattle.gltf_inspect_files.specs.Contents.{IsWholeOf, IsJoined}
use Rattle.gltf_inspect_files.specs.Layers.{IsOfLayers, PassesLayers}
use Rattle.gltf_inspect_files.specs.Reports.{Found, IsFound, lent_of, records_findings}
use Rattle.gltf_inspect_files.specs.Within.{AreContents, said_by}

said : (share : Option ℕ) (names : Names) (bytes : List ℕ) (r : Root) (buffers : List (List ℕ))
    (found contents : Found) → PassesLayers names bytes r buffers found
    → AreContents share (length bytes) r buffers contents
    → said_by share names bytes r buffers (found ++ contents)
said None names bytes r buffers found contents passes are = record {
  accepted = passes.accepted;
  same = ap (λ (some : Found). some ++ contents) passes.same
      ∙ ap (λ (others : Found). records_findings r ++ others) are;
}
said (Some share) names bytes r buffers found contents passes are = record {
  accepted = passes.accepted;
  contents = contents;
  within = are;
  same = ap (λ (some : Found). some ++ contents) passes.same;
}

module _ (share : Option ℕ) (names : Names) (bytes : List ℕ) where
  -- by what was imported: refused, and then nothing more is found
  of_refused : (imported : Option (Root × List (List ℕ))) (cause : Option Error) (found : Found)
      → imported ≡ None → IsFound PassesLayers names bytes cause imported found
      → IsFound (said_by share) names bytes cause imported found
  of_refused None cause found none is = is
  of_refused (Some read) cause found none is = cc

  of_accepted : (imported : Option (Root × List (List ℕ))) (cause : Option Error)
      (found whole : Found)
      → MatchOption imported ⊥ (λ read. IsJoined share (length bytes) read.0 read.1 found whole)
      → IsFound PassesLayers names bytes cause imported found
      → IsFound (said_by share) names bytes cause imported whole
  of_accepted None cause found whole joined is = absurd joined
  of_accepted (Some read) cause found whole joined is =
      subst (said_by share names bytes read.0 read.1) (sym joined.same)
      (said share names bytes read.0 read.1 found joined.contents is joined.are)

  by_report : (file : Lent) (report : Option Found) → IsWholeOf share (length bytes) file report
      → IsOfLayers names bytes file
      → IsFound (said_by share) names bytes file.cause (lent_of file.imported)
      (unwrap_or report file.report)
  by_report file None none is = of_refused (lent_of file.imported) file.cause file.report none is
  by_report file (Some whole) joined is =
      of_accepted (lent_of file.imported) file.cause file.report whole joined is

pub of_whole : (share : Option ℕ) (len : ℕ) (file whole : Lent) (report : Option Found)
    → IsWholeOf share len file report → whole.report ≡ unwrap_or report file.report
    → whole.cause ≡ file.cause → whole.imported ≡ file.imported
    → (names : Names) (bytes : List ℕ) → length bytes ≡ len → IsOfLayers names bytes file
    → IsFound (said_by share) names bytes whole.cause (lent_of whole.imported) whole.report
of_whole share len file whole report is same cause imported names bytes long layers =
    let here : IsWholeOf share (length bytes) file report
    = subst (λ (n : ℕ). IsWholeOf share n file report) (sym long) is in
    subst (λ read. IsFound (said_by share) names bytes whole.cause (lent_of read) whole.report)
    (sym imported)
    (subst (λ why. IsFound (said_by share) names bytes why (lent_of file.imported) whole.report)
    (sym cause)
    (subst (λ found. IsFound (said_by share) names bytes file.cause (lent_of file.imported) found)
    (sym same) (by_report share names bytes file report here layers)))
