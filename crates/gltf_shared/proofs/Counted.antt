-- One name more, and one buffer more.
use Rattle.std.proofs.Common.{◌≡◌, ◌+◌, ◌||◌, ℕ, Bool, true, false, List, ◌∷◌}
use Rattle.std.proofs.Common.{Option, Some, refl, ap, arith, cond}
use Rattle.std.specs.Prelude.{is_some}
use Rattle.gltf_names.specs.Named.{Named}
use Rattle.gltf_buffers.specs.Buffers.{Source, name_at}
use Rattle.gltf_shared.specs.Lengths.{capped, Names, own_len, shared_len, with_name}

-- a text is a key where it is the new one, or was one
pub one_more : (same : Bool) (old : Option Unit)
    → is_some (cond same (Some tt) old) ≡ (same || is_some old)
one_more true old = refl
one_more false old = refl

pub added : (names then : Names) (i before own : ℕ) (s : Source) (sources : List Source)
    (all : List (List ℕ)) → ((other : Named) → then other ≡ with_name (name_at s.uri) names other)
    → own ≡ own_len names i s all
    → capped (capped (before + own) + shared_len then (i + 1) sources all)
    ≡ capped (before + shared_len names i (s ∷ sources) all)
added names then i before own s sources all same is =
    let alike : then ≡ with_name (name_at s.uri) names = λ k other. same other k in
    let rest : shared_len then (i + 1) sources all
    ≡ shared_len (with_name (name_at s.uri) names) (i + 1) sources all =
    ap (λ (n : Names). shared_len n (i + 1) sources all) alike in
    omega (arith, rest, is)
