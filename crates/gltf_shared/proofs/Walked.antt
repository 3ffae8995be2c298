-- A walk over buffers, one more at a time: the answers so far fit what is held, and the source was
-- asked for what is held alone.
use Rattle.std.proofs.Common.{ℕ, ◌≡◌, ◌≢◌, ◌<◌, ◌+◌, List, [], ◌∷◌, ◌++◌, Result, Ok, Err, length}
use Rattle.std.proofs.Common.{get_or, refl, sym, ap, subst, ◌∙◌, inl, inr, arith}
use Rattle.std.specs.Prelude.{Option, Some, None, IsSome, is_some, slice_get}
use Rattle.std.specs.List.{AllByRecursion}
use Rattle.std.proofs.lemmas.Bool.{cases_lt}
use Rattle.std.proofs.lemmas.List.{length-append, get_or_append_left}
use Rattle.std.proofs.lemmas.Option.{get_or_from_slice_get, slice_get-get_or, slice_get_within}
use Rattle.std.proofs.Math.Seq.{get_or-append_seam}
use Rattle.gltf_glb.specs.declared.error.Error.{Error}
use Rattle.gltf_glb.specs.declared.error.Error.TheVariants as error
use Rattle.gltf_names.specs.Named.{Named}
use Rattle.gltf_buffers.specs.Buffers.{Source, name_at, blob_for}
use Rattle.gltf_buffers.specs.Each.{IsAnswerFor, AreAnswers}
use Rattle.gltf_buffers.specs.Names.{Names, CanBeAsked}
use Rattle.gltf_shared.specs.Asked.{Asked, AreOnce, IsNamedBy, AsksOnce, AsksNamed}
use Rattle.gltf_shared.specs.Given.{held_at, IsSound, Keeps, Fits}
use Rattle.gltf_shared.specs.Shared.{AreAlike, AreShared, IsNotFailed}
use Rattle.gltf_shared.specs.declared.held.Held.{Held}

-- what each buffer with a name was answered is held
abbrev pub AllFit : List Source → List (Result (List ℕ) Error) → Held → Type 0
AllFit sources answers held =
    (name : Named) (k : ℕ) (s : Source) (a : Result (List ℕ) Error)
    → slice_get sources k ≡ Some s → slice_get answers k ≡ Some a
    → name_at s.uri ≡ Some name → Fits (held_at held name) a

-- `AsksOnce`, and each of the names is held
pub record AsksHeld {S : Type 0} (asks : S → Named → S → Type 0) (sources : List Source)
    (held : Held) (old new : S) : Type 0 where
  pub names : List Named
  pub once : AreOnce names
  pub named : AllByRecursion (IsNamedBy sources) names
  pub known : AllByRecursion (λ (name : Named). IsSome (held_at held name)) names
  pub asked : Asked asks old names new

pub record IsWalked {S : Type 0} (asks : S → Named → S → Type 0) (names : Names)
    (sources : List Source) (blob : Option (List ℕ)) (n : ℕ)
    (answers : List (Result (List ℕ) Error)) (held : Held) (old new : S) : Type 0 where
  pub are : AreAnswers names sources blob n answers
  pub fits : AllFit sources answers held
  pub sound : IsSound names held
  pub asked : CanBeAsked names → AsksHeld asks sources held old new

-- ---- lists with one more at the end

earlier : {A : Type 0} (xs : List A) (x y : A) (k : ℕ) → k < length xs
    → slice_get (xs ++ x ∷ []) k ≡ Some y → slice_get xs k ≡ Some y
earlier xs x y k inside at =
    slice_get-get_or xs k y inside
    ∙ ap Some (sym (get_or_append_left xs (x ∷ []) y k inside)
    ∙ get_or_from_slice_get (xs ++ x ∷ []) k y y at)

last : {A : Type 0} (xs : List A) (x y : A) → slice_get (xs ++ x ∷ []) (length xs) ≡ Some y → y ≡ x
last xs x y at =
    sym (get_or_from_slice_get (xs ++ x ∷ []) (length xs) y y at) ∙ get_or-append_seam xs x [] y

-- what holds of each pair, and of one more, holds of each with that one
each_more : {A B : Type 0} (Q : ℕ → A → B → Type 0) (xs : List A) (ys : List B) (i : ℕ) (x : A)
    (y : B) → length ys ≡ i
    → ((k : ℕ) (u : A) (v : B) → slice_get xs k ≡ Some u → slice_get ys k ≡ Some v → Q k u v)
    → slice_get xs i ≡ Some x → Q i x y
    → (k : ℕ) (u : A) (v : B) → slice_get xs k ≡ Some u → slice_get (ys ++ y ∷ []) k ≡ Some v
    → Q k u v
each_more {A} {B} Q xs ys i x y count so_far there is k u v at_u at_v =
    let within = slice_get_within (ys ++ y ∷ []) k v at_v in
    let long = length-append ys (y ∷ []) in
    elim (cases_lt k i) [
      | inl lt ↦ so_far k u v at_u (earlier ys y v k (omega arith) at_v)
      | inr ge ↦
          let e : k ≡ i = omega (arith, within, long, count) in
          let at_i : slice_get xs i ≡ Some u = subst (λ n. slice_get xs n ≡ Some u) e at_u in
          let same : x ≡ u = cc in
          let n : k ≡ length ys = omega (arith, within, long, count) in
          let ends : v ≡ y =
          last ys y v (subst (λ m. slice_get (ys ++ y ∷ []) m ≡ Some v) n at_v) in
          subst (λ m. Q m u v) (sym e)
          (subst (λ (a : A). Q i a v) same (subst (λ (b : B). Q i x b) (sym ends) is))
    ]

-- ---- what is held stays

fits_kept : (held then : Held) → Keeps held then → (name : Named) (a : Result (List ℕ) Error)
    → Fits (held_at held name) a → Fits (held_at then name) a
fits_kept held then keeps name (Ok bytes) fits = keeps name (Some bytes) fits
fits_kept held then keeps name (Err (error.Io cause)) fits = keeps name None fits
fits_kept held then keeps name (Err e) fits = fits

some_is : {X : Type 0} (o : Option X) → IsSome o → (x : X) × (o ≡ Some x)
some_is None some = cc
some_is (Some x) some = (x, refl)

some_kept : (held then : Held) → Keeps held then → (name : Named) → IsSome (held_at held name)
    → IsSome (held_at then name)
some_kept held then keeps name some =
    let it = some_is (held_at held name) some in
    let stays : held_at then name ≡ Some it.0 = keeps name it.0 it.1 in
    ap is_some stays

known_kept : (held then : Held) → Keeps held then → (names : List Named)
    → AllByRecursion (λ (name : Named). IsSome (held_at held name)) names
    → AllByRecursion (λ (name : Named). IsSome (held_at then name)) names
known_kept held then keeps [] known = tt
known_kept held then keeps (name ∷ names) known =
    (some_kept held then keeps name known.0, known_kept held then keeps names known.1)

other_name : (held : Held) (name other : Named) → held_at held name ≡ None
    → IsSome (held_at held other) → other ≢ name
other_name held name other none some = λ e.
    let it = some_is (held_at held other) some in
    let there : held_at held name ≡ Some it.0 =
    subst (λ (n : Named). held_at held n ≡ Some it.0) e it.1 in
    cc

not_among : (held : Held) (name : Named) → held_at held name ≡ None → (names : List Named)
    → AllByRecursion (λ (other : Named). IsSome (held_at held other)) names
    → AllByRecursion (λ (other : Named). other ≢ name) names
not_among held name none [] known = tt
not_among held name none (other ∷ names) known =
    (other_name held name other none known.0, not_among held name none names known.1)

-- ---- the steps

pub walked_first : {S : Type 0} (asks : S → Named → S → Type 0) (names : Names)
    (sources : List Source) (blob : Option (List ℕ)) (held : Held) (old : S)
    → ((name : Named) → held_at held name ≡ None)
    → IsWalked asks names sources blob 0 [] held old old
walked_first asks names sources blob held old empty = record {
  are = record { count = refl; each = λ i s a there at. cc };
  fits = λ name k s a there at leads. cc;
  sound = λ name bytes at. let none = empty name in cc;
  asked = λ can. record { names = []; once = tt; named = tt; known = tt; asked = refl };
}

pub asked_more : {S : Type 0} (asks : S → Named → S → Type 0) (sources : List Source) (n : ℕ)
    (s : Source) (held then : Held) (old mid new : S) → AsksHeld asks sources held old mid
    → Keeps held then → slice_get sources n ≡ Some s → AsksNamed asks s.uri held then mid new
    → AsksHeld asks sources then old new
asked_more {S} asks sources n s held then old mid new so_far keeps there more = elim more [
  | inl same ↦ record {
    names = so_far.names;
    once = so_far.once;
    named = so_far.named;
    known = known_kept held then keeps so_far.names so_far.known;
    asked = subst (λ (m : S). Asked asks old so_far.names m) (sym same) so_far.asked;
  }
  | inr one ↦ record {
    names = one.0 ∷ so_far.names;
    once = (not_among held one.0 one.2 so_far.names so_far.known, so_far.once);
    named = ((n, s, there, one.1), so_far.named);
    known = (one.3, known_kept held then keeps so_far.names so_far.known);
    asked = (mid, so_far.asked, one.4);
  }
]

pub one_answered : (names : Names) (sources : List Source) (blob : Option (List ℕ)) (n : ℕ)
    (answers : List (Result (List ℕ) Error)) (s : Source) (a : Result (List ℕ) Error)
    → AreAnswers names sources blob n answers → slice_get sources n ≡ Some s
    → IsAnswerFor names (blob_for sources blob n) n s a
    → AreAnswers names sources blob (n + 1) (answers ++ a ∷ [])
one_answered names sources blob n answers s a are there is = record {
  count = rw (length-append answers (a ∷ []), are.count) refl;
  each = each_more (λ k t b. IsAnswerFor names (blob_for sources blob k) k t b)
      sources answers n s a are.count are.each there is;
}

pub walked_more : {S : Type 0} (asks : S → Named → S → Type 0) (names : Names)
    (sources : List Source) (blob : Option (List ℕ)) (n : ℕ)
    (answers : List (Result (List ℕ) Error)) (held then : Held) (old mid new : S) (s : Source)
    (a : Result (List ℕ) Error)
    → IsWalked asks names sources blob n answers held old mid → slice_get sources n ≡ Some s
    → IsAnswerFor names (blob_for sources blob n) n s a
    → ((name : Named) → name_at s.uri ≡ Some name → Fits (held_at then name) a)
    → IsSound names then → Keeps held then
    → (CanBeAsked names → AsksNamed asks s.uri held then mid new)
    → IsWalked asks names sources blob (n + 1) (answers ++ a ∷ []) then old new
walked_more asks names sources blob n answers held then old mid new s a so_far there is fits sound
    keeps more = record {
      are = one_answered names sources blob n answers s a so_far.are there is;
      fits = λ name. each_more
          (λ k t b. name_at t.uri ≡ Some name → Fits (held_at then name) b)
          sources answers n s a so_far.are.count
          (λ k t b at_t at_b leads. fits_kept held then keeps name b (so_far.fits name k t b at_t at_b leads))
          there (fits name);
      sound = sound;
      asked = λ can. asked_more asks sources n s held then old mid new (so_far.asked can) keeps there
          (more can);
    }

-- ---- the end

pub asks_once : {S : Type 0} (asks : S → Named → S → Type 0) (sources : List Source)
    (held : Held) (old new : S) → AsksHeld asks sources held old new
    → AsksOnce asks sources old new
asks_once asks sources held old new it =
    record { names = it.names; once = it.once; named = it.named; asked = it.asked }

not_failed : (held : Option (Option (List ℕ))) (bytes : List ℕ) (e : Error)
    → held ≡ Some (Some bytes) → Fits held (Err e) → IsNotFailed e
not_failed held bytes (error.Io cause) is fits = cc
not_failed held bytes e is fits = tt

alike : (held : Option (Option (List ℕ))) (a b : Result (List ℕ) Error) → Fits held a
    → Fits held b → AreAlike a b
alike held (Ok one) (Ok other) f g = cc
alike held (Ok one) (Err e) f g = not_failed held one e f g
alike held (Err e) (Ok other) f g = not_failed held other e g f
alike held (Err e) (Err other) f g = tt

pub are_shared : (sources : List Source) (answers : List (Result (List ℕ) Error)) (held : Held)
    → AllFit sources answers held → AreShared sources answers
are_shared sources answers held fits name i j s t a b there_s leads_s at_a there_t leads_t at_b =
    alike (held_at held name) a b (fits name i s a there_s at_a leads_s)
    (fits name j t b there_t at_b leads_t)
