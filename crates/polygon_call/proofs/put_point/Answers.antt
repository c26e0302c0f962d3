-- `polygon_call::put_point` meets its contract.
use mathlib.Core.Path.{◌≡◌, sym, ap, ap₂, ◌∙◌, subst}
use mathlib.Core.Bool.{not}
use mir.Syntax.{w32}
use mir.Val.{to_z, of_z}
use Rattle.answer.specs.Limits.{farthest}
use Rattle.polygon_laws.proofs.SignedLaws.{sent}
use mathlib.Core.List.{List, ◌++◌}
use Prim.Native.Nat.{ℕ, ◌-◌, ◌≤◌}
use native.Mathlib.Omega.{arith}
use lib.Dec.{T}
use lib.ListN.{length, take, drop, length-take, length-drop}
use lib.IntN.{ℤ, nat_abs}
use lib.Ieee.{Float, is_nan, binary64, to_bits}
use Rattle.polygon.specs.Bytes.{bytes_of}
use Rattle.polygon.specs.Coordinate.{coordinate_of}
use Rattle.polygon.specs.Polygon.{coordinate_bytes, point_bytes}
use Rattle.grid.specs.declared.Corner.{Corner}
use Rattle.polygon_laws.proofs.BytesLaws.{lent-more, length-bytes_of}
use Rattle.polygon_laws.proofs.ValueLaws.{coordinate_no_nan}
use Rattle.polygon_call.proofs.put_point.Goals as goal

no_nan : (x : Float) (z : ℤ) → nat_abs z ≤ farthest → x ≡ coordinate_of (to_z w32 (of_z w32 z)) → T (not (is_nan x))
no_nan x z h e = subst (λ (y : Float). T (not (is_nan y))) (sym (sent z h e)) (coordinate_no_nan z h)

bytes : (x : Float) (z : ℤ) → nat_abs z ≤ farthest → x ≡ coordinate_of (to_z w32 (of_z w32 z)) → bytes_of 8 (to_bits binary64 x) ≡ coordinate_bytes z
unfolding coordinate_bytes
bytes x z h e = ap (λ (y : Float). bytes_of 8 (to_bits binary64 y)) (sent z h e)

room : (cur : List ℕ) → 16 ≤ length cur → 8 ≤ length (take (length cur - 8) (drop 8 cur))
room cur h = simp (length-take, length-drop) (omega arith)

two : (l cur ys : List ℕ) (x y : Float) (c : Corner) → nat_abs c.0 ≤ farthest → nat_abs c.1 ≤ farthest
    → x ≡ coordinate_of (to_z w32 (of_z w32 c.0)) → y ≡ coordinate_of (to_z w32 (of_z w32 c.1))
    → cur ≡ bytes_of 8 (to_bits binary64 x) ++ drop 8 l → ys ≡ bytes_of 8 (to_bits binary64 y) ++ drop 8 (take (length cur - 8) (drop 8 cur))
    → take 8 cur ++ (ys ++ drop (length cur - 8) (drop 8 cur)) ≡ point_bytes c ++ drop 16 l
unfolding point_bytes
two l cur ys x y c h k p q e w =
    lent-more l cur (bytes_of 8 (to_bits binary64 x)) (bytes_of 8 (to_bits binary64 y)) ys 8 8 (length-bytes_of 8 (to_bits binary64 x)) e w
    ∙ ap₂ (λ (a b : List ℕ). a ++ b ++ drop 16 l) (bytes x c.0 h p) (bytes y c.1 k q)

pub put_float-requires : goal.put_float-requires
put_float-requires c = (omega arith, no_nan _ c.args.c.0 c.requires.1 c.millimetres.ensures)

pub put_float-requires-2 : goal.put_float-requires-2
put_float-requires-2 c = (room c.put_float.new.buf (omega arith), no_nan _ c.args.c.1 c.requires.2 c.millimetres-2.ensures)

pub returns : goal.returns
returns c =
    two c.args.buf.now c.put_float.new.buf c.put_float-2.new.buf _ _ c.args.c
    c.requires.1 c.requires.2 c.millimetres.ensures
    c.millimetres-2.ensures c.put_float.ensures c.put_float-2.ensures
