-- The laws `reads_back` and `one_reading`. `reads_back` names the parts of what is written.
-- `one_reading` rests on `container_reads`: the parts of a container are what fixed functions cut
-- out of the bytes (`body_of`, `behind_json`), so two containers have equal parts, and its header
-- has no fault. `no_fault` and `one_fault` go by cases on the layer of a fault: the header, the
-- JSON chunk or the later chunks (by `one_later`). `parts_of`, `Again` and `ReaderLaws` use these
-- lemmas too.
use Rattle.std.proofs.Common.{◌≡◌, ℕ, ◌+◌, ◌<◌, ◌^◌, List, [], ◌++◌, length, take, drop, Option}
use Rattle.std.proofs.Common.{option_map, Some, None, Ok, Err, refl, sym, ap, subst, inl, inr, ◌∙◌}
use Rattle.std.proofs.Common.{arith, length-append}
use Rattle.std.proofs.lemmas.List.{append-nil}
use Rattle.std.proofs.Math.Seq.{take-append_seam, take-append-add}
use Rattle.gltf_glb.specs.Bytes.{magic, json_tag, bin_tag, word, word_at, chunk, padded}
use Rattle.gltf_glb.specs.Faults.{Fault, type_of, header_fault, json_fault}
use Rattle.gltf_glb.specs.Container.{Later, IsBody, IsContainer, HasFault, body_of, behind_json}
use Rattle.gltf_glb.specs.Written.{total_of, bin_chunk}
use Rattle.gltf_glb.specs.Laws.{OneReading, ReadsBack}
use Rattle.gltf_glb.proofs.Rows.{json_ok, header_ok}
use Rattle.gltf_glb.proofs.Seen.{Reads, chunk_read, word_read}
use Rattle.gltf_glb.proofs.Lengths.{length_chunk}
use Rattle.gltf_glb.proofs.Unique.{one_later}

later_written : (bin : Option (List ℕ)) → length (bin_chunk bin) < 2 ^ 32
    → Later (bin_chunk bin) (Ok (option_map (padded 0) bin))
later_written None h = record { others = []; tail = []; unknown = tt; whole = refl; ends = refl }
later_written (Some bin) h = record {
  others = [];
  tail = chunk bin_tag (padded 0 bin);
  unknown = tt;
  whole = refl;
  ends = (
    omega (arith, length_chunk bin_tag (padded 0 bin) refl),
    [],
    sym (append-nil (chunk bin_tag (padded 0 bin))),
  );
}

pub reads_back : ReadsBack
reads_back json bin h =
    let sum = length-append (chunk json_tag (padded 32 json)) (bin_chunk bin) in
    let first = length_chunk json_tag (padded 32 json) refl in
    record {
      body = chunk json_tag (padded 32 json) ++ bin_chunk bin;
      past = [];
      fits = h;
      whole =
          ap (λ (t : List ℕ). magic ++ (word 2 ++ (word (total_of json bin) ++ t)))
          (sym (append-nil (chunk json_tag (padded 32 json) ++ bin_chunk bin)));
      parts = record {
        left = bin_chunk bin;
        fits = omega arith;
        whole = refl;
        later = later_written bin (omega arith);
      };
    }

-- what a body that is parts is read as
pub record BodyReads (body json : List ℕ) (bin : Option (List ℕ)) : Type 0 where
  fine : json_fault body ≡ None
  held : json ≡ take (word_at 0 body) (drop 8 body)
  later : Later (behind_json body) (Ok bin)

body_reads : (body json : List ℕ) (bin : Option (List ℕ)) → IsBody body json bin
    → BodyReads body json bin
body_reads body json bin is =
    let r : Reads body json_tag json is.left =
    subst (λ (t : List ℕ). Reads t json_tag json is.left) (sym is.whole)
    (chunk_read json_tag json is.left refl is.fits) in
    let number = r.number in let long = r.long in
    record {
      fine = json_ok body (omega arith) (ap type_of r.named) (omega arith);
      held = sym (ap (λ (n : ℕ). take n (drop 8 body)) r.number ∙ r.held);
      later = subst (λ (t : List ℕ). Later t (Ok bin)) (sym r.behind) is.later;
    }

pub record HeaderReads (bytes body : List ℕ) : Type 0 where
  pub fine : header_fault bytes ≡ None
  pub held : body ≡ body_of bytes

pub header_reads : (body past : List ℕ) → 12 + length body < 2 ^ 32
    → HeaderReads (magic ++ (word 2 ++ (word (12 + length body) ++ (body ++ past)))) body
unfolding word word_at
header_reads body past h =
    let total : ℕ = 12 + length body in
    let front : List ℕ = magic ++ (word 2 ++ word (12 + length body)) in
    let bytes : List ℕ = magic ++ (word 2 ++ (word (12 + length body) ++ (body ++ past))) in
    let at8 : word_at 8 (magic ++ (word 2 ++ (word (12 + length body) ++ (body ++ past))))
    ≡ 12 + length body = word_read (12 + length body) (body ++ past) h in
    let at4 : word_at 4 (magic ++ (word 2 ++ (word (12 + length body) ++ (body ++ past))))
    ≡ 2 = refl in
    let long : length (magic ++ (word 2 ++ (word (12 + length body) ++ (body ++ past))))
    ≡ 12 + length body + length past = omega (arith, length-append body past) in
    let cut : take (12 + length body)
    (magic ++ (word 2 ++ (word (12 + length body) ++ (body ++ past)))) ≡ front
    ++ take (length body) (body ++ past) =
    take-append-add (magic ++ (word 2 ++ word (12 + length body))) (body ++ past) (length body) in
    record {
      fine = header_ok bytes (omega arith) refl at4 (omega arith) (omega arith);
      held =
          sym (ap (λ (n : ℕ). drop 12
          (take n (magic ++ (word 2 ++ (word (12 + length body) ++ (body ++ past)))))) at8
          ∙ ap (λ (t : List ℕ). drop 12 t) cut ∙ take-append_seam body past);
    }

pub container_reads : (bytes json : List ℕ) (bin : Option (List ℕ)) → IsContainer bytes json bin
    → (header_fault bytes ≡ None) × BodyReads (body_of bytes) json bin
container_reads bytes json bin is =
    let r : HeaderReads bytes is.body =
    subst (λ (t : List ℕ). HeaderReads t is.body) (sym is.whole)
    (header_reads is.body is.past is.fits) in (
      r.fine,
      subst (λ (t : List ℕ). BodyReads t json bin) r.held
          (body_reads is.body json bin is.parts),
    )

pub no_fault : (bytes json : List ℕ) (bin : Option (List ℕ)) (fault : Fault)
    → IsContainer bytes json bin → HasFault bytes fault → ⊥
no_fault bytes json bin fault is has =
    let r = container_reads bytes json bin is in
    let fine = r.0 in let body = r.1.fine in
    elim has [
      | inl e ↦ cc
      | inr e ↦ elim e.1 [
        | inl f ↦ cc
        | inr f ↦
            let same : Ok bin ≡ Err fault =
            one_later (behind_json (body_of bytes)) (Ok bin) (Err fault) r.1.later f.1 in cc
      ]
    ]

pub one_fault : (bytes : List ℕ) (f g : Fault) → HasFault bytes f → HasFault bytes g → f ≡ g
one_fault bytes f g (inl p) (inl q) = let e : Some f ≡ Some g = sym p ∙ q in cc
one_fault bytes f g (inl p) (inr q) = let e = q.0 in cc
one_fault bytes f g (inr p) (inl q) = let e = p.0 in cc
one_fault bytes f g (inr (a, inl p)) (inr (b, inl q)) = let e : Some f ≡ Some g = sym p ∙ q in cc
one_fault bytes f g (inr (a, inl p)) (inr (b, inr q)) = let e = q.0 in cc
one_fault bytes f g (inr (a, inr p)) (inr (b, inl q)) = let e = p.0 in cc
one_fault bytes f g (inr (a, inr p)) (inr (b, inr q)) =
    let e = one_later (behind_json (body_of bytes)) (Err f) (Err g) p.1 q.1 in cc

pub one_reading : OneReading
one_reading bytes (Ok x) (Ok y) p q =
    let r = container_reads bytes x.0 x.1 p in
    let s = container_reads bytes y.0 y.1 q in
    let first : x.0 ≡ y.0 = r.1.held ∙ sym s.1.held in
    let second : Ok x.1 ≡ Ok y.1 =
    one_later (behind_json (body_of bytes)) (Ok x.1) (Ok y.1) r.1.later s.1.later in
    let third : x.1 ≡ y.1 = cc in
    λ i. Ok (first i, third i)
one_reading bytes (Ok x) (Err g) p q = absurd (no_fault bytes x.0 x.1 g p q)
one_reading bytes (Err f) (Ok y) p q = absurd (no_fault bytes y.0 y.1 f q p)
one_reading bytes (Err f) (Err g) p q = ap Err (one_fault bytes f g p q)
