-- Lines numbered byte by byte.
-- Assumes nothing.
use mathlib.Core.Path.{◌≡◌, refl, sym, ap, ap₂, ◌∙◌, subst}
use mathlib.Core.Bool.{Bool, cond}
use mathlib.Core.List.{List, [], ◌∷◌, ◌++◌}
use Prim.Native.Nat.{ℕ, zero, suc, ◌+◌, ◌*◌, ◌<◌, ◌≤◌}
use native.Mathlib.Omega.{arith}
use native.Mathlib.Numerals.{add-one}
use lib.Dec.{eqb}
use lib.ListN.{length, take, get_or}
use lib.Seq.{take-suc, take_all, length-take-le}
use Rattle.lists.specs.Lists.{tally}
use Rattle.line_frame.specs.Program.{feeds_in}
use Rattle.line_frame.proofs.OutputLaws.{feeds_in-append}
use Rattle.line_fields.specs.Put.{Wrote}
use Rattle.line_fields.proofs.PutLaws.{wrote_append, wrote_nil, length-put}
use Rattle.sheet.specs.declared.Margin.{Margin}
use Rattle.sheet.specs.Sizes.{most_cell}
use Rattle.sheet.specs.Entry.{cell_of}
use Rattle.sheet.specs.Sheet.{header, numbered_from, head_of, line_of, begins_after}
use Rattle.sheet.proofs.NumberLaws.{numbered_append, begins_append, numbered_most, feeds_most, line_above, head_none, head_most}
use Rattle.sheet_number.specs.declared.Numbered.{Numbered}
use Rattle.sheet_number.specs.Numbered.{most_piece, most_page, most_number, NumberedFrom, NumberedIs}

-- the header, if nothing is written yet
pub head_written : (line : ℕ) (a : List ℕ) → 0 < line → Wrote (head_of line) 0 a 0 a
head_written line a h = subst (λ (l : List ℕ). Wrote l 0 a 0 a) (sym (head_none line h)) (wrote_nil 0 a)

pub head_first : (line : ℕ) {e : ℕ} {a b : List ℕ} → line ≤ 0 → Wrote header 0 a e b → Wrote (head_of line) 0 a e b
head_first zero h w = w
head_first (suc n) h w = absurd (omega arith)

-- the bytes before place i are written
pub record Numbering (starts : Bool) (first : ℕ) (s : List ℕ) (at : ℕ) (before : List ℕ) (begins : Bool) (n used i : ℕ) (after : List ℕ) : Type 0 where
  pub within : i ≤ length s
  pub room : at + suc most_cell * length s ≤ length before
  pub few : first + length s < 18446744073709551616
  pub line : begins ≡ begins_after starts (take i s)
  pub number : n ≡ first + feeds_in (take i s)
  pub output : Wrote (numbered_from starts first (take i s)) at before used after

pub numbering_start : (starts : Bool) (first : ℕ) (s : List ℕ) (at : ℕ) (out : List ℕ) → at + suc most_cell * length s ≤ length out → first + length s < 18446744073709551616
    → Numbering starts first s at out starts first at 0 out
unfolding numbered_from begins_after
numbering_start starts first s at out r f = record { within = omega arith; room = r; few = f; line = refl; number = omega arith; output = wrote_nil at out }

module _ {starts : Bool} {first : ℕ} {s : List ℕ} {at : ℕ} {before : List ℕ} {begins : Bool} {n used i : ℕ} {after : List ℕ} (g : Numbering starts first s at before begins n used i after) where
  taken : length (take i s) ≡ i
  taken = length-take-le i s g.within

  some : length (numbered_from starts first (take i s)) ≤ suc most_cell * i
  some = omega (arith, numbered_most starts first (take i s), taken)

  pub numbering_long : length after ≡ length before
  numbering_long = ap length g.output.buffer ∙ length-put (numbered_from starts first (take i s)) at before (omega (arith, some, g.room, g.within))

  -- the buffer is long enough for one more, and for its number
  pub numbering_room : i < length s → (used + suc most_cell ≤ length after) × (n < 18446744073709551615)
  numbering_room h = (
    omega (arith, g.output.end, some, g.room, numbering_long),
    omega (arith, g.number, g.few, feeds_most (take i s), taken),
  )

  pub numbering_next : {e k : ℕ} {out : List ℕ} → i < length s → k ≡ n + tally (eqb (get_or s i 0) 10) → Wrote (cond begins (cell_of n) [] ++ (get_or s i 0 ∷ [])) used after e out
      → Numbering starts first s at before (eqb (get_or s i 0) 10) k e (i + 1) out
  unfolding numbered_from begins_after
  numbering_next {e} {k} {out} h j w =
      let b : ℕ = get_or s i 0 in
      let t : take (i + 1) s ≡ take i s ++ (b ∷ []) = ap (λ (m : ℕ). take m s) (add-one i) ∙ take-suc s i 0 h in
      let a : numbered_from starts first (take (i + 1) s) ≡ numbered_from starts first (take i s) ++ (cond begins (cell_of n) [] ++ (b ∷ [])) =
      ap (numbered_from starts first) t
      ∙ numbered_append starts first (take i s) (b ∷ [])
      ∙ ap₂ (λ (c : Bool) (m : ℕ). numbered_from starts first (take i s) ++ numbered_from c m (b ∷ [])) (sym g.line) (sym g.number)
      in record {
        within = omega arith;
        room = g.room;
        few = g.few;
        line = sym (ap (begins_after starts) t ∙ begins_append starts (take i s) (b ∷ []));
        number = omega (arith, j, g.number, ap feeds_in t, feeds_in-append (take i s) (b ∷ []));
        output = subst (λ (l : List ℕ). Wrote l at before e out) (sym a)
            (wrote_append g.output w (omega (arith, some, g.room, g.output.end, byte)));
      }
    where
      byte : length (cond begins (cell_of n) [] ++ (get_or s i 0 ∷ [])) ≤ suc most_cell
      byte = numbered_most begins n (get_or s i 0 ∷ [])

  pub numbering_done : length s ≤ i → NumberedFrom starts first s at before (record { used = used; margin = record { line = n; begins = begins } }) after
  numbering_done h =
      let t : take i s ≡ s = take_all i s h in
      record {
        output = subst (λ (l : List ℕ). Wrote (numbered_from starts first l) at before used after) t g.output;
        margin =
            ap₂ {A = ℕ} {B = Bool} {C = Margin} (λ (i : ℕ) (b : Bool). record { line = i; begins = b }) g.number g.line
            ∙ ap {A = List ℕ} {B = Margin} (λ (l : List ℕ). record { line = first + feeds_in l; begins = begins_after starts l }) t;
      }

module _ (m : Margin) (s : List ℕ) where
  -- there is space after the header, and for the numbers
  pub page_room : {a b : List ℕ} {e : ℕ} → length s ≤ most_piece → length a ≡ most_page → Wrote (head_of m.line) 0 a e b → length b ≡ length a → e + suc most_cell * length s ≤ length b
  page_room f r w l = omega (arith, f, r, w.end, head_most m.line, l)

  pub page_numbers : {n : ℕ} → length s ≤ most_piece → m.line ≤ most_number → n ≡ line_of m.line → n + length s < 18446744073709551616
  page_numbers f k e = omega (arith, f, k, e, line_above m.line)

  -- the header, if it is due, and the lines
  pub page_done : {a b after : List ℕ} {e n : ℕ} {r : Numbered} → length s ≤ most_piece → length a ≡ most_page → Wrote (head_of m.line) 0 a e b → n ≡ line_of m.line → NumberedFrom m.begins n s e b r after
      → NumberedIs m s a r after
  page_done {a} {b} {after} {e} {n} {r} f l w k g =
      let h : NumberedFrom m.begins (line_of m.line) s e b r after = subst (λ (i : ℕ). NumberedFrom m.begins i s e b r after) k g in
      record {
        output = wrote_append w h.output (omega (arith, l, f, head_most m.line, numbered_most m.begins (line_of m.line) s));
        margin = h.margin;
      }

-- which has one answer and one state of the buffer
pub numbered_is_one : {m : Margin} {s before after₁ after₂ : List ℕ} {r₁ r₂ : Numbered} → NumberedIs m s before r₁ after₁ → NumberedIs m s before r₂ after₂ → (r₁.used ≡ r₂.used) × (r₁.margin ≡ r₂.margin) × (after₁ ≡ after₂)
numbered_is_one g h = (g.output.end ∙ sym h.output.end, g.margin ∙ sym h.margin, g.output.buffer ∙ sym h.output.buffer)
