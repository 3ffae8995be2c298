-- The machine values of blocks and vectors, and that each is of its type. Assumes nothing.
use Rattle.std.proofs.Common.{◌≡◌, ℕ, ◌<◌, ◌^◌, List, [], ◌∷◌}
use Rattle.std.proofs.Common.{refl, lit<, arith}
use lib.Dec.{T, eqb, eqb→eq}
use lib.ListN.{length}
use mathlib.Core.Bool.{Bool, true, false, ◌&&◌}
use mir.Raw.{raw as bits}
use mir.Syntax.{w64, ty_ptr, given}
use mir.Val.{Val, WT, vint, vptr, vstruct, vcons, vnil, has_ty}
use types.Match.{live}
use denote.Builtin.{u8}
use denote.Exit.{no}
use denote.Memory.{lone}
use denote.Param.{layout, arg}
use denote.Param.Laws.{arg_laws}
use denote.RattleType.{RattleType}
use denote.RawPtr.{Ptr, block_ptr, null_ptr, ptr_val}
use Rattle.core.proofs.alloc.Calls.{Al}
use Rattle.std.specs.contracts.alloc.Global as heap
use Rattle.std.specs.contracts.option.Option as option
use Rattle.std.proofs.alloc.Global.TheLaws as of_heap
use Rattle.std_heap.specs.contracts.GlobalAllocator.TheImpl as allocator
use Rattle.std_alloc.specs.contracts.vec.Vec as vec
use Rattle.gltf_c_block.specs.contracts.Full as full

-- the program's allocator, as lemmas of the standard library take it
abbrev pub Heap : RattleType
Heap = arg (bits (layout heap.the_row)) no heap.the_row

abbrev pub al : Al
al = record {
  row = Heap;
  laws = arg_laws (bits (layout heap.the_row)) no heap.the_row of_heap.the_row_laws refl;
  g = allocator.ghosts;
  d = allocator.dict;
  drops = given 0;
}

-- a vector of bytes
abbrev pub Bytes : RattleType
Bytes = vec.the_row u8 heap.the_row allocator.ghosts

abbrev pub Maybe : RattleType
Maybe = option.the_row full.the_row

-- the values of a block of n bytes, of a vector of them in the block b, and of `Some` of a block
abbrev pub words : Ptr → ℕ → Val
words p n = vstruct (vcons (ptr_val p) (vcons (vint w64 n) vnil))

abbrev pub vec_words : Val → ℕ → ℕ → ℕ → Val
vec_words h b o n =
    vstruct (vcons (vptr b o) (vcons (vint w64 n) (vcons (vint w64 n) (vcons h vnil))))

abbrev pub some_words : Ptr → ℕ → Val
some_words p n = live 1 (vcons (words p n) vnil)

pub pointer_typed : (p : Ptr) → T (has_ty ty_ptr (ptr_val p)) × WT (ptr_val p)
pointer_typed (block_ptr b o) = (tt, tt)
pointer_typed null_ptr = (tt, record { fits = lit< tt })

pub words_typed : (p : Ptr) (n : ℕ) → n < 2 ^ 64
    → T (has_ty (lone full.the_row.mir) (words p n)) × WT (words p n)
words_typed (block_ptr b o) n fits = (tt, (tt, (record { fits = fits }, tt)))
words_typed null_ptr n fits = (tt, (record { fits = lit< tt }, (record { fits = fits }, tt)))

pub some_typed : (p : Ptr) (n : ℕ) → n < 2 ^ 64
    → T (has_ty (layout Maybe) (some_words p n)) × WT (some_words p n)
some_typed (block_ptr b o) n fits =
    (tt, (record { fits = lit< tt }, ((tt, (record { fits = fits }, tt)), tt)))
some_typed null_ptr n fits = (
  tt,
  (record { fits = lit< tt }, ((record { fits = lit< tt }, (record { fits = fits }, tt)), tt)),
)

and_true : (x : Bool) → T x → T (x && true)
and_true true t = tt
and_true false t = absurd t

pub vec_typed : (h : Val) (b o n : ℕ) → T (has_ty (layout Heap) h) × WT h → n < 2 ^ 64
    → T (has_ty (lone Bytes.mir) (vec_words h b o n)) × WT (vec_words h b o n)
vec_typed h b o n good fits = (
  and_true (has_ty (layout Heap) h) good.0,
  (tt, (record { fits = fits }, (record { fits = fits }, (good.1, tt)))),
)

-- a list of no bytes is empty
pub no_bytes : (n : ℕ) (bytes : List ℕ) → n ≡ length bytes → T (eqb n 0) → [] ≡ bytes
no_bytes n [] long zero = refl
no_bytes n (x ∷ xs) long zero = let none : n ≡ 0 = eqb→eq n 0 zero in absurd (omega arith)
