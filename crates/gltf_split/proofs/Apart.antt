-- The names of files, apart from one another.
use Rattle.std.proofs.Common.{◌≡◌, ◌≢◌, ℕ, ◌+◌, ◌<◌, ◌≤◌, ◌^◌, ◌%◌, List, [], ◌∷◌, ◌++◌, length}
use Rattle.std.proofs.Common.{Bool, true, false, Option, Some, None, Global, Vec, refl, sym, ap}
use Rattle.std.proofs.Common.{subst}
use Rattle.std.proofs.Common.{◌∙◌, arith, codes, decimal, drop, get_or, bytes_eq, ◌==◌}
use Rattle.std.proofs.lemmas.Fmt.{decimal_by_steps, decimal_injective}
use Rattle.std.proofs.lemmas.List.{append_cancel_left, append_cancel_right}
use Rattle.std.specs.Prelude.{if◌then◌else◌, ⊤}
use Rattle.serde_json.specs.Data.{Data, Items, no_items, item}
use Rattle.gltf_edit.specs.Embedded.{items_at}
use Rattle.gltf_buffers.specs.Names.{Names}
use Rattle.gltf_detach.specs.Naming.{buffer_name, image_name, numeral, ending_of, ending_for}
use Rattle.gltf_detach.specs.declared.part.Part.{Part}
use Rattle.gltf_bundle.specs.Images.{text_at}
use Rattle.gltf_bundle.specs.Media.{begun_media}
use Rattle.gltf_split.specs.Images.{AreParts, AreImages}
use Rattle.gltf_split.specs.Laws.{names_of_buffers, names_of_images}
use Rattle.gltf_split.specs.Laws.{IsNoneOf, AreApart, HasNamesApart}
use Rattle.gltf_required.specs.declared.required.Required.{Required}
use Rattle.gltf_split.specs.Splits.{IsSplit, AreNamed}
use Rattle.gltf_split.specs.declared.splitting.Pieces.{Pieces}
use Rattle.gltf_names.specs.Named.{Named}
use Rattle.gltf_bundle.specs.declared.options.Keep.{Keep}
use Rattle.gltf_bundle.specs.declared.options.Keep.TheVariants.{Nothing, Missing, Every}

-- ---- digits

abbrev AreDigits : List ℕ → Type 0
AreDigits [] = ⊤
AreDigits (c ∷ cs) = (48 ≤ c) × (c ≤ 57) × AreDigits cs

one_digit : (n : ℕ) → n < 10 → AreDigits ((48 + n) ∷ [])
one_digit n h = (omega arith, omega arith, tt)

more_digits : (ds : List ℕ) (n : ℕ) → AreDigits ds → n < 10 → AreDigits (ds ++ ((48 + n) ∷ []))
more_digits [] n are h = one_digit n h
more_digits (d ∷ ds) n are h = (are.0, are.1, more_digits ds n are.2 h)

are_digits : (n : ℕ) → n < 2 ^ 64 → AreDigits (decimal n)
are_digits =
    decimal_by_steps (λ (n : ℕ) (ds : List ℕ). AreDigits ds) one_digit
    (λ n ds h are. more_digits ds (n % 10) are (omega arith))

-- digits before a point are the same where both texts are
same_digits : (xs ys e f : List ℕ) → AreDigits xs → AreDigits ys
    → xs ++ 46 ∷ e ≡ ys ++ 46 ∷ f → xs ≡ ys
same_digits [] [] e f xs_are ys_are same = refl
same_digits [] (y ∷ ys) e f xs_are ys_are same =
    let here : 46 ≡ y = ap (λ (l : List ℕ). get_or l 0 0) same in absurd
    (omega (arith, here, ys_are.0))
same_digits (x ∷ xs) [] e f xs_are ys_are same =
    let here : x ≡ 46 = ap (λ (l : List ℕ). get_or l 0 0) same in absurd
    (omega (arith, here, xs_are.0))
same_digits (x ∷ xs) (y ∷ ys) e f xs_are ys_are same =
    let here : x ≡ y = ap (λ (l : List ℕ). get_or l 0 0) same in
    let later : xs ++ 46 ∷ e ≡ ys ++ 46 ∷ f = ap (drop 1) same in
    ap (λ (z : ℕ). z ∷ xs) here
    ∙ ap (λ (zs : List ℕ). y ∷ zs) (same_digits xs ys e f xs_are.2 ys_are.2 later)

-- ---- endings

-- it begins with a point
record IsDotted (e : List ℕ) : Type 0 where
  rest : List ℕ
  is : e ≡ 46 ∷ rest

dotted_if : (a b c d e f : Bool)
    → IsDotted (if a then codes ".png" else if b then codes ".jpg" else if c then codes ".webp"
    else if d then codes ".ktx2" else if e then codes ".avif" else if f then codes ".dds"
    else codes ".bin")
dotted_if true b c d e f = record { rest = codes "png"; is = refl }
dotted_if false true c d e f = record { rest = codes "jpg"; is = refl }
dotted_if false false true d e f = record { rest = codes "webp"; is = refl }
dotted_if false false false true e f = record { rest = codes "ktx2"; is = refl }
dotted_if false false false false true f = record { rest = codes "avif"; is = refl }
dotted_if false false false false false true = record { rest = codes "dds"; is = refl }
dotted_if false false false false false false = record { rest = codes "bin"; is = refl }

dotted_for : (media : List ℕ) → IsDotted (ending_for media)
dotted_for media =
    dotted_if (bytes_eq media (codes "image/png")) (bytes_eq media (codes "image/jpeg"))
    (bytes_eq media (codes "image/webp")) (bytes_eq media (codes "image/ktx2"))
    (bytes_eq media (codes "image/avif")) (bytes_eq media (codes "image/vnd-ms.dds"))

dotted : (begun own : Option (List ℕ)) → IsDotted (ending_of begun own)
dotted (Some media) own = dotted_for media
dotted None (Some media) = dotted_for media
dotted None None = record { rest = codes "bin"; is = refl }

-- ---- two names

-- the name of the text is that of no buffer
not_buffer_at : (ds : List ℕ) → AreDigits ds → codes ".gltf" ≡ ds ++ codes ".bin" → ⊥
not_buffer_at [] are same =
    let other : 103 ≡ 98 = ap (λ (l : List ℕ). get_or l 1 0) same in omega (arith, other)
not_buffer_at (d ∷ ds) are same =
    let here : 46 ≡ d = ap (λ (l : List ℕ). get_or l 0 0) same in omega (arith, here, are.0)

numeral_digits : (count i : ℕ) → i < 2 ^ 64 → AreDigits (numeral count i)
numeral_digits count i h = digits_if (count == 1) where
  digits_if : (b : Bool) → AreDigits (if b then [] else decimal i)
  digits_if true = tt
  digits_if false = are_digits i h

module _ (stem : List ℕ) where
  text_buffer : (count i : ℕ) → i < 2 ^ 64 → stem ++ codes ".gltf" ≢ buffer_name stem count i
  text_buffer count i h same =
      not_buffer_at (numeral count i) (numeral_digits count i h)
      (append_cancel_left stem (codes ".gltf") (numeral count i ++ codes ".bin") same)

  text_image : (i : ℕ) (e : List ℕ) → stem ++ codes ".gltf" ≢ image_name stem i e
  text_image i e same =
      let rest = append_cancel_left stem (codes ".gltf")
      (codes "_image" ++ (decimal i ++ e)) same in
      let here : 46 ≡ 95 = ap (λ (l : List ℕ). get_or l 0 0) rest in omega (arith, here)

  buffer_image : (count i j : ℕ) (e : List ℕ) → i < 2 ^ 64
      → buffer_name stem count i ≢ image_name stem j e
  buffer_image count i j e h same =
      apart_at (numeral count i) (numeral_digits count i h)
      (append_cancel_left stem (numeral count i ++ codes ".bin")
      (codes "_image" ++ (decimal j ++ e))
      same) where
        apart_at : (ds : List ℕ) → AreDigits ds
            → ds ++ codes ".bin" ≡ codes "_image" ++ (decimal j ++ e) → ⊥
        apart_at [] are same =
            let here : 46 ≡ 95 = ap (λ (l : List ℕ). get_or l 0 0) same in omega (arith, here)
        apart_at (d ∷ ds) are same =
            let here : d ≡ 95 = ap (λ (l : List ℕ). get_or l 0 0) same in omega (arith, here, are.1)

  two_buffers : (count i j : ℕ) → (count == 1) ≡ false → i < j → j < 2 ^ 64
      → buffer_name stem count i ≢ buffer_name stem count j
  two_buffers count i j several before small same =
      let numerals = append_cancel_right (numeral count i) (numeral count j) (codes ".bin")
      (append_cancel_left stem (numeral count i ++ codes ".bin") (numeral count j ++ codes ".bin")
      same) in
      let decimals : decimal i ≡ decimal j =
      subst (λ (b : Bool). (if b then [] else decimal i) ≡ (if b then [] else decimal j)) several
      numerals in
      let equal = decimal_injective i j (omega arith) small decimals in
      omega (arith, equal)

  two_images : (i j : ℕ) (e f : List ℕ) → IsDotted e → IsDotted f → i < j → j < 2 ^ 64
      → image_name stem i e ≢ image_name stem j f
  two_images i j e f e_is f_is before small same =
      let after = append_cancel_left (codes "_image") (decimal i ++ e) (decimal j ++ f)
      (append_cancel_left stem (codes "_image" ++ (decimal i ++ e))
      (codes "_image" ++ (decimal j ++ f)) same) in
      let dots : decimal i ++ 46 ∷ e_is.rest ≡ decimal j ++ 46 ∷ f_is.rest =
      sym (ap (λ (x : List ℕ). decimal i ++ x) e_is.is) ∙ after
      ∙ ap (λ (x : List ℕ). decimal j ++ x) f_is.is in
      let first : i < 2 ^ 64 = omega arith in
      let equal = decimal_injective i j first small
      (same_digits (decimal i) (decimal j) e_is.rest f_is.rest (are_digits i first)
      (are_digits j small) dots) in
      omega (arith, equal)

-- ---- lists of names with rising numbers

-- F i x: x is the name of number i
record IsNext (F : ℕ → List ℕ → Type 0) (k : ℕ) (x : List ℕ) : Type 0 where
  number : ℕ
  from : k ≤ number
  small : number < 2 ^ 64
  is : F number x

abbrev AreRising : (ℕ → List ℕ → Type 0) → ℕ → List (List ℕ) → Type 0
AreRising F k [] = ⊤
AreRising F k (x ∷ xs) = (next : IsNext F k x) × AreRising F (next.number + 1) xs

sooner : (F : ℕ → List ℕ → Type 0) (k l : ℕ) (xs : List (List ℕ)) → k ≤ l → AreRising F l xs
    → AreRising F k xs
sooner F k l [] h rising = tt
sooner F k l (x ∷ xs) h rising =
    let next = rising.0 in
    let from : k ≤ next.number = omega (arith, next.from) in (
      record { number = next.number; from = from; small = next.small; is = next.is },
      rising.1,
    )

module _ (F : ℕ → List ℕ → Type 0)
    (differ : (i j : ℕ) (x y : List ℕ) → F i x → F j y → i < j → j < 2 ^ 64 → x ≢ y) where
  none_later : (i : ℕ) (x : List ℕ) → F i x → (k : ℕ) (ys : List (List ℕ)) → i < k
      → AreRising F k ys → IsNoneOf x ys
  none_later i x is k [] h rising = tt
  none_later i x is k (y ∷ ys) h rising =
      let next = rising.0 in
      let before : i < next.number = omega (arith, next.from) in (
        differ i next.number x y is next.is before next.small,
        none_later i x is (next.number + 1) ys (omega (arith, before)) rising.1,
      )

  rising_apart : (k : ℕ) (xs : List (List ℕ)) → AreRising F k xs → AreApart xs
  rising_apart k [] rising = tt
  rising_apart k (x ∷ xs) rising =
      let next = rising.0 in (
        none_later next.number x next.is (next.number + 1) xs (omega arith) rising.1,
        rising_apart (next.number + 1) xs rising.1,
      )

-- a name that is none of those of a form is none of a list of these
none_of_form : (G : ℕ → List ℕ → Type 0) (x : List ℕ)
    → ((j : ℕ) (y : List ℕ) → j < 2 ^ 64 → G j y → x ≢ y) → (k : ℕ) (ys : List (List ℕ))
    → AreRising G k ys → IsNoneOf x ys
none_of_form G x other k [] rising = tt
none_of_form G x other k (y ∷ ys) rising =
    let next = rising.0 in (
      other next.number y next.small next.is,
      none_of_form G x other (next.number + 1) ys rising.1,
    )

none_append : (x : List ℕ) (xs ys : List (List ℕ)) → IsNoneOf x xs → IsNoneOf x ys
    → IsNoneOf x (xs ++ ys)
none_append x [] ys one other = other
none_append x (y ∷ xs) ys one other = (one.0, none_append x xs ys one.1 other)

-- two lists of names of two forms
both_apart : (F G : ℕ → List ℕ → Type 0)
    → ((i j : ℕ) (x y : List ℕ) → i < 2 ^ 64 → j < 2 ^ 64 → F i x → G j y → x ≢ y)
    → (k l : ℕ) (xs ys : List (List ℕ)) → AreRising F k xs → AreRising G l ys → AreApart xs
    → AreApart ys → AreApart (xs ++ ys)
both_apart F G differ k l [] ys xs_rise ys_rise xs_apart ys_apart = ys_apart
both_apart F G differ k l (x ∷ xs) ys xs_rise ys_rise xs_apart ys_apart =
    let next = xs_rise.0 in (
      none_append x xs ys xs_apart.0
          (none_of_form G x
          (λ j y small is. differ next.number j x y next.small small next.is is) l ys ys_rise),
      both_apart F G differ (next.number + 1) l xs ys xs_rise.1 ys_rise xs_apart.1 ys_apart,
    )

-- ---- those of a set

abbrev IsBufferName : List ℕ → ℕ → ℕ → List ℕ → Type 0
IsBufferName stem count i x = x ≡ buffer_name stem count i

record IsImageName (stem : List ℕ) (i : ℕ) (x : List ℕ) : Type 0 where
  ending : List ℕ
  point : IsDotted ending
  is : x ≡ image_name stem i ending

buffers_rise : (stem : List ℕ) (count i : ℕ) (ps : List Part) → AreNamed stem count i ps
    → i + length ps < 2 ^ 64 → AreRising (IsBufferName stem count) i (names_of_buffers ps)
buffers_rise stem count i [] named h = tt
buffers_rise stem count i (p ∷ ps) named h = (
  record { number = i; from = omega arith; small = omega arith; is = named.0 },
  buffers_rise stem count (i + 1) ps named.1 (omega arith),
)

module _ (keep : Keep) (names : Names) (stem : List ℕ) (buffers : List (List ℕ))
    (document : Data) where
  images_rise : (i : ℕ) (ds : Items) (ps : List (Option Part))
      (lost : List Named) → AreParts keep names stem buffers document i ds ps lost
      → i + length ps < 2 ^ 64 → AreRising (IsImageName stem) i (names_of_images ps)
  images_rise i no_items [] lost are h = tt
  images_rise i no_items (p ∷ ps) lost are h = absurd are
  images_rise i (item d ds) [] lost are h = absurd are
  images_rise i (item d ds) (None ∷ ps) lost are h =
      sooner (IsImageName stem) i (i + 1) (names_of_images ps) (omega arith)
      (images_rise (i + 1) ds ps are.1 are.3 (omega arith))
  images_rise i (item d ds) (Some p ∷ ps) lost are h = (
    record {
      number = i;
      from = omega arith;
      small = omega arith;
      is = record {
        ending = ending_of (begun_media p.bytes.items) (text_at (codes "mimeType") d);
        point = dotted (begun_media p.bytes.items) (text_at (codes "mimeType") d);
        is = are.2.0.name;
      };
    },
    images_rise (i + 1) ds ps are.1 are.3 (omega arith),
  )

all_images_rise : (keep : Keep) (names : Names) (stem : List ℕ) (buffers : List (List ℕ))
    (document : Data) (ps : List (Option Part)) (lost : List Named)
    → AreImages keep names stem buffers document ps lost → length ps < 2 ^ 64
    → AreRising (IsImageName stem) 0 (names_of_images ps)
all_images_rise Every names stem buffers document ps lost are h =
    subst (λ (qs : List (Option Part)). AreRising (IsImageName stem) 0 (names_of_images qs))
    (sym are.0) tt
all_images_rise Nothing names stem buffers document ps lost are h =
    images_rise Nothing names stem buffers document 0 (items_at (codes "images") document) ps lost
    are (omega arith)
all_images_rise Missing names stem buffers document ps lost are h =
    images_rise Missing names stem buffers document 0 (items_at (codes "images") document) ps lost
    are (omega arith)

differ_buffers : (stem : List ℕ) (count : ℕ) → (count == 1) ≡ false → (i j : ℕ) (x y : List ℕ)
    → IsBufferName stem count i x → IsBufferName stem count j y → i < j → j < 2 ^ 64 → x ≢ y
differ_buffers stem count several i j x y x_is y_is before small same =
    two_buffers stem count i j several before small (sym x_is ∙ same ∙ y_is)

differ_images : (stem : List ℕ) (i j : ℕ) (x y : List ℕ) → IsImageName stem i x
    → IsImageName stem j y → i < j → j < 2 ^ 64 → x ≢ y
differ_images stem i j x y x_is y_is before small same =
    two_images stem i j x_is.ending y_is.ending x_is.point y_is.point before small
    (sym x_is.is ∙ same ∙ y_is.is)

-- one buffer alone
one_alone : (ps : List Part) → length ps ≡ 1 → AreApart (names_of_buffers ps)
one_alone [] is = absurd (omega (arith, is))
one_alone (p ∷ []) is = (tt, tt)
one_alone (p ∷ q ∷ ps) is = absurd (omega (arith, is))

buffers_apart : (stem : List ℕ) (ps : List Part) (b : Bool) → (length ps == 1) ≡ b
    → AreNamed stem (length ps) 0 ps → length ps < 2 ^ 64 → AreApart (names_of_buffers ps)
buffers_apart stem ps true is named h = one_alone ps (grind arith)
buffers_apart stem ps false is named h =
    rising_apart (IsBufferName stem (length ps)) (differ_buffers stem (length ps) is) 0
    (names_of_buffers ps) (buffers_rise stem (length ps) 0 ps named (omega arith))

few : {X : Type 0} (v : Vec X Global) → length v.items < 2 ^ 64
few v = omega (arith, v.ok.0, v.ok.1, v.small)

module _ (required : Required) (names : Names) (path stem : List ℕ) (keep : Keep) (drop : Bool)
    (set : Pieces) (is : IsSplit required names path stem keep drop set) where
  abbrev buffers : List (List ℕ)
  buffers = names_of_buffers set.buffers.items

  abbrev images : List (List ℕ)
  images = names_of_images set.images.items

  abbrev count : ℕ
  count = length set.buffers.items

  buffers_are : AreRising (IsBufferName stem count) 0 buffers
  buffers_are =
      let small = few set.buffers in
      buffers_rise stem count 0 set.buffers.items is.named (omega (arith, small))

  images_are : AreRising (IsImageName stem) 0 images
  images_are =
      all_images_rise keep names stem is.whole is.value set.images.items is.lost is.images
      (few set.images)

  files_apart : AreApart (buffers ++ images)
  files_apart =
      both_apart (IsBufferName stem count) (IsImageName stem)
      (λ i j x y i_small j_small x_is y_is same.
      buffer_image stem count i j y_is.ending i_small (sym x_is ∙ same ∙ y_is.is)) 0 0 buffers
      images
      buffers_are images_are
      (buffers_apart stem set.buffers.items (count == 1) refl is.named (few set.buffers))
      (rising_apart (IsImageName stem) (differ_images stem) 0 images images_are)

  text_apart : IsNoneOf (stem ++ codes ".gltf") (buffers ++ images)
  text_apart =
      none_append (stem ++ codes ".gltf") buffers images
      (none_of_form (IsBufferName stem count) (stem ++ codes ".gltf")
      (λ j y small y_is same. text_buffer stem count j small (same ∙ y_is)) 0 buffers buffers_are)
      (none_of_form (IsImageName stem) (stem ++ codes ".gltf")
      (λ j y small y_is same. text_image stem j y_is.ending (same ∙ y_is.is)) 0 images images_are)

pub names_apart : HasNamesApart
names_apart required names path stem keep drop set is = (
  text_apart required names path stem keep drop set is,
  files_apart required names path stem keep drop set is,
)
