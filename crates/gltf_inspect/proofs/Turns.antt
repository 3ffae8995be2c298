-- What twelve walks in turn have reported.
use Rattle.std.proofs.Common.{◌≡◌, List, refl}
use Rattle.gltf_json_record.specs.Place.{Place}
use Rattle.gltf_findings.specs.declared.code.Code.{Code}
use Rattle.gltf_findings.specs.Checks.{Checks, ◌&◌, told_after}

abbrev pub Told : Type 0
Told = List (List Place × Code)

pub in_turn : (path : List Place) (a b c d e f g h i j k l : Checks)
    (t0 t1 t2 t3 t4 t5 t6 t7 t8 t9 t10 t11 t12 : Told)
    → t1 ≡ told_after t0 path a → t2 ≡ told_after t1 path b → t3 ≡ told_after t2 path c
    → t4 ≡ told_after t3 path d → t5 ≡ told_after t4 path e → t6 ≡ told_after t5 path f
    → t7 ≡ told_after t6 path g → t8 ≡ told_after t7 path h → t9 ≡ told_after t8 path i
    → t10 ≡ told_after t9 path j → t11 ≡ told_after t10 path k → t12 ≡ told_after t11 path l
    → t12 ≡ told_after t0 path (a & b & c & d & e & f & g & h & i & j & k & l)
in_turn path a b c d e f g h i j k l t0 t1 t2 t3 t4 t5 t6 t7 t8 t9 t10 t11 t12
    e1 e2 e3 e4 e5 e6 e7 e8 e9 e10 e11 e12 =
    rw (e12, e11, e10, e9, e8, e7, e6, e5, e4, e3, e2, e1) refl
