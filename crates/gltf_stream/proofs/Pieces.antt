-- One reading or writing after another.
use Rattle.std.proofs.Common.{◌≡◌, ℕ, ◌+◌, ◌<◌, ◌≤◌, List, [], ◌∷◌, ◌++◌, length, get_or, take}
use Rattle.std.proofs.Common.{drop, Option, Result, OnErr, Ok, Err, sym, ap, subst, ◌∙◌, arith}
use Rattle.std.proofs.Common.{length-append, append_assoc, append-nil}
use Rattle.std.proofs.lemmas.List.{take-append-drop, take-append-le, drop_more, length-take-le}
use Rattle.std.proofs.lemmas.List.Concat.{flat_map-append}
use Rattle.std.proofs.Math.Seq.{take-append-add}
use Rattle.std.proofs.KnownBytes.{Consumes-nil, Consumes-trans, Appends-trans}
use Rattle.std.specs.Borrow.{Bor}
use Rattle.std.specs.Io.KnownBytes.{Appends}
use Rattle.gltf_stream.specs.Streams.{ReadsBehind, WritesBeginning, bytes_of_all}

pub reads_nothing : (a : Option (List ℕ)) (old : List ℕ) → ReadsBehind a a old old
reads_nothing a old = ([], Consumes-nil a, sym (append-nil old))

pub reads_more : (a b c : Option (List ℕ)) (old mid new : List ℕ) → ReadsBehind a b old mid
    → ReadsBehind b c mid new → ReadsBehind a c old new
reads_more a b c old mid new (xs, p, e) (ys, q, f) = (
  xs ++ ys,
  Consumes-trans a b c xs ys p q,
  f ∙ ap (λ (t : List ℕ). t ++ ys) e ∙ append_assoc old xs ys,
)

-- the first bytes, and some more of the others
pub take_on : (i n : ℕ) (xs : List ℕ) → i ≤ length xs
    → take (i + n) xs ≡ take i xs ++ take n (drop i xs)
take_on i n xs h =
    ap (λ (k : ℕ). take (k + n) xs) (sym (length-take-le i xs h))
    ∙ ap (λ (t : List ℕ). take (length (take i xs) + n) t) (sym (take-append-drop i xs))
    ∙ take-append-add (take i xs) (drop i xs) n

-- the bytes before a piece, its own, and those after it
split_at : (ps : List (Bor (List ℕ))) (i : ℕ) (d : Bor (List ℕ)) → i < length ps
    → bytes_of_all ps
    ≡ bytes_of_all (take i ps) ++ ((get_or ps i d).now ++ bytes_of_all (drop (i + 1) ps))
split_at ps i d h =
    ap bytes_of_all (sym (take-append-drop i ps)
    ∙ ap (λ (t : List (Bor (List ℕ))). take i ps ++ t) (drop_more ps i d h))
    ∙ flat_map-append (λ (piece : Bor (List ℕ)). piece.now) (take i ps)
    (get_or ps i d ∷ drop (i + 1) ps)

-- all pieces in front of one were written, and a beginning of that one
pub writes_more : (a b c : Option (List ℕ)) (ps : List (Bor (List ℕ))) (i : ℕ)
    (d : Bor (List ℕ)) → i < length ps → Appends a b (bytes_of_all (take i ps))
    → WritesBeginning b c (get_or ps i d).now → WritesBeginning a c (bytes_of_all ps)
writes_more a b c ps i d h p (k, few, q) =
    let split : bytes_of_all ps
    ≡ bytes_of_all (take i ps) ++ ((get_or ps i d).now ++ bytes_of_all (drop (i + 1) ps)) =
    split_at ps i d h in
    let cut : take (length (bytes_of_all (take i ps)) + k) (bytes_of_all ps)
    ≡ bytes_of_all (take i ps) ++ take k (get_or ps i d).now =
    ap (λ (t : List ℕ). take (length (bytes_of_all (take i ps)) + k) t) split
    ∙ take-append-add (bytes_of_all (take i ps))
    ((get_or ps i d).now ++ bytes_of_all (drop (i + 1) ps)) k
    ∙ ap (λ (t : List ℕ). bytes_of_all (take i ps) ++ t)
    (take-append-le k (get_or ps i d).now (bytes_of_all (drop (i + 1) ps)) few) in (
      length (bytes_of_all (take i ps)) + k,
      omega (
        arith,
        ap length split,
        length-append (bytes_of_all (take i ps))
            ((get_or ps i d).now ++ bytes_of_all (drop (i + 1) ps)),
        length-append (get_or ps i d).now (bytes_of_all (drop (i + 1) ps)),
      ),
      subst (λ (t : List ℕ). Appends a c t) (sym cut)
          (Appends-trans a b c (bytes_of_all (take i ps)) (take k (get_or ps i d).now) p q),
    )

-- some bytes were written, and then some of those that were left
pub writes_on : (a b c : Option (List ℕ)) (i n : ℕ) (xs left : List ℕ) → i ≤ length xs
    → left ≡ drop i xs → Appends a b (take i xs) → Appends b c (take n left)
    → Appends a c (take (i + n) xs)
writes_on a b c i n xs left h is p q =
    subst (λ (t : List ℕ). Appends a c t)
    (ap (λ (t : List ℕ). take i xs ++ take n t) is ∙ sym (take_on i n xs h))
    (Appends-trans a b c (take i xs) (take n left) p q)

pub on_err : {X E : Type 0} (r : Result X E) (P : Type 0) → P → OnErr r P
on_err (Ok x) P p = tt
on_err (Err e) P p = p
