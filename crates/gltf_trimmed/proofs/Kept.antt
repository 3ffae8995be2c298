-- Each byte that is in a view that stays, or in none that goes, is left at its place.
use Rattle.std.proofs.Common.{◌≡◌, ℕ, zero, suc, ◌-◌, ◌<◌, ◌≤◌, ◌%◌, List, [], ◌++◌, length}
use Rattle.std.proofs.Common.{take, replicate, get_or, Bool, true, false, Option, Some, None}
use Rattle.std.proofs.Common.{refl, sym, ap, ◌∙◌, arith, ⊎_elim}
use Rattle.std.proofs.lemmas.Bool.{cases_lt, eqb-true}
use Rattle.std.proofs.lemmas.List.{get_or_append_left, get_or-append_right, get_or-take}
use Rattle.std.proofs.lemmas.List.{get_or_past, length-take}
use Rattle.std.specs.Prelude.{if◌then◌else◌, ◌==◌}
use Rattle.serde_json.specs.Data.{Items}
use Rattle.gltf_trim.specs.Lengths.{lengths, may_go, all_may_go, is_in_some}
use Rattle.gltf_trim.specs.Marks.{staying}
use Rattle.gltf_trim.specs.TrimmedLaws.{holds_at}
use Rattle.gltf_trimmed.specs.Laws.{cut, cut_all, KeepsBytes, views_gone}
use Rattle.gltf_trimmed.proofs.Bytes.{zeros, padded_is, cut_or, as_many_cut}
use Rattle.gltf_trimmed.proofs.Reached.{length_at, ends, reaches_end, behind_goes, in_front}

-- ---- behind the end

zero_there : (b : Bool) (x : ℕ) → (if b then true else x == 0) ≡ true → b ≡ false → x ≡ 0
zero_there true x is out = cc
zero_there false x is out = eqb-true x 0 is

zero_behind : (gone : Items) (b : ℕ) (bytes : List ℕ) (e i : ℕ)
    → all_may_go gone b bytes e ≡ true → is_in_some b i gone ≡ false → e ≤ i
    → get_or bytes i 0 ≡ 0
zero_behind gone b bytes e i all out h =
    ⊎_elim
    (λ inside.
    zero_there (is_in_some b i gone) (get_or bytes i 0)
    (holds_at (may_go gone b bytes) e (length bytes - e) i all h (omega (arith, h, inside))) out)
    (λ past. get_or_past bytes i 0 past)
    (cases_lt i (length bytes))

-- ---- one buffer

no_more : (n i : ℕ) → ◌≡◌ {A = ℕ} (get_or (replicate n 0) i 0) 0
no_more zero i = refl
no_more (suc n) zero = refl
no_more (suc n) (suc i) = no_more n i

front_byte : (n : ℕ) (bytes more : List ℕ) (i : ℕ) → i < length (take n bytes)
    → get_or (take n bytes ++ more) i 0 ≡ get_or bytes i 0
front_byte n bytes more i h =
    let long = length-take n bytes in
    get_or_append_left (take n bytes) more 0 i h
    ∙ get_or-take n bytes i 0 (omega (arith, long, h))

module _ (n : ℕ) (bytes : List ℕ) (i : ℕ) (zero_past : n ≤ i → get_or bytes i 0 ≡ 0) where
  past_front : length (take n bytes) ≤ i → get_or bytes i 0 ≡ 0
  past_front h =
      let long = length-take n bytes in
      ⊎_elim (λ before. get_or_past bytes i 0 (omega (arith, long, h, before)))
      (λ behind. zero_past behind) (cases_lt i n)

  kept_byte : get_or (take n bytes ++ zeros n bytes) i 0 ≡ get_or bytes i 0
  kept_byte =
      ⊎_elim (λ inside. front_byte n bytes (zeros n bytes) i inside)
      (λ past.
      get_or-append_right (take n bytes) (zeros n bytes) (length (take n bytes)) i 0 refl past
      ∙ no_more ((4 - length (take n bytes) % 4) % 4) (i - length (take n bytes))
      ∙ sym (past_front past))
      (cases_lt i (length (take n bytes)))

cut_byte : (l : Option ℕ) (bytes : List ℕ) (i : ℕ)
    → ((n : ℕ) → l ≡ Some n → n ≤ i → get_or bytes i 0 ≡ 0)
    → get_or (cut l bytes) i 0 ≡ get_or bytes i 0
cut_byte None bytes i past = refl
cut_byte (Some n) bytes i past =
    ap (λ (xs : List ℕ). get_or xs i 0) (padded_is n bytes) ∙ kept_byte n bytes i (past n refl)

-- ---- all buffers

pub bytes_kept : KeepsBytes
bytes_kept d buffers b i stays =
    let n = staying d in
    let ls = lengths n d buffers in
    let bytes = get_or buffers b [] in
    ⊎_elim
    (λ there.
    ap (λ (xs : List ℕ). get_or xs i 0) (cut_or ls buffers b there)
    ∙ cut_byte (length_at ls b) bytes i
    (λ l is h.
    ⊎_elim {C = get_or bytes i 0 ≡ 0}
    (λ in_left.
    let before = in_front n d buffers b l is i in_left in absurd (omega (arith, before, h)))
    (λ out.
    let reaches = reaches_end n d buffers b l is in
    zero_behind (views_gone d) b bytes (get_or (ends n d buffers) b 0) i
    (behind_goes n d buffers b l is) out (omega (arith, reaches, h)))
    stays))
    (λ past.
    let many = as_many_cut ls buffers in
    ap (λ (xs : List ℕ). get_or xs i 0)
    (get_or_past (cut_all ls buffers) b [] (omega (arith, many, past)))
    ∙ sym (ap (λ (xs : List ℕ). get_or xs i 0) (get_or_past buffers b [] past)))
    (cases_lt b (length buffers))
