-- What is left of each part at a stop, what closing a span makes of it, and the whole sweep.
-- Assumes nothing.
use mathlib.Core.Bool.{Bool, true, false, cond, true≢false}
use mathlib.Core.List.{List, [], ◌∷◌}
use mathlib.Core.Logic.{⊎_elim}
use mathlib.Core.Path.{◌≡◌, refl, sym, ap, ap₂, ◌∙◌, subst, subst₂}
use Prim.Native.Nat.{ℕ, suc, ◌+◌, ◌-◌, ◌*◌, ◌%◌, ◌<◌, ◌≤◌, min}
use native.Mathlib.Omega.{arith}
use lib.Dec.{eqb}
use lib.IntN.{ℤ, negsuc, pred_ℤ}
use lib.ListN.{length}
use lib.Seq.{sets}
use lib.Signed.{◌<ℤ◌}
use Rattle.int_laws.proofs.LinearLaws.{zarith}
use Rattle.lists.specs.Lists.{tally}
use Rattle.grid.specs.declared.Corner.{Corner}
use Rattle.grid.specs.Grid.{corner}
use Rattle.row.specs.Rows.{Span, span_numbers, lengths_of}
use Rattle.row_laws.specs.Feet.{pairs_of}
use Rattle.row_laws.proofs.{FootLaws.Ahead, FootLaws.climbs_in_turn, PairLaws.pair_row, PairLaws.pairs_even, PairLaws.turn_up-to}
use Rattle.row_bucket_laws.proofs.WriteLaws.{sets_append}
use Rattle.overlay.specs.declared.{Part.Part, Part.TheVariants.First, Part.TheVariants.Second, Part.TheVariants.Both, Measure.Measure, Measures.Measures}
use Rattle.overlay.specs.Call.{of_parts}
use Rattle.overlay_laws.specs.Join.{leads, differ}
use Rattle.overlay_laws.specs.Sweep.{part_has, part_ends, end_at, ends_from, odd, part_rest}
use Rattle.overlay_laws.proofs.{PartLaws.Ends, PartLaws.ends-ends, PartLaws.tally-odd, OverlayLaws.none-none, OverlayLaws.walk_ends}
use Rattle.overlay_laws.proofs.SweepLaws.{stop-left, step_nearer, some_fuel, left-none, rest-start, length-ends_from}
use Rattle.overlay_sweep.specs.Keys.{KeyFits, last_key, end_key, key_at, Added, Closed, Closable, in_parts}
use Rattle.overlay_sweep.specs.Parts.{Spanned, part_spans, Swept}
use Rattle.overlay_sweep.proofs.KeyLaws.{key_ahead, span-back, key_gap, key_last, lead_key, next_key}

-- ---- one part

-- the ends E are left of a part that has the spans L in all; n stops are passed
pub record Left (E : List Corner) (L : List Span) (n : ℕ) (before : List ℤ) (m : Measure) (now : List ℤ) : Type 0 where
  pub ends : Ends E
  pub many : m.spans + length (pairs_of E) ≡ length L
  pub sum : m.panels + lengths_of (pairs_of E) ≡ lengths_of L
  pub spans_few : m.spans ≤ n
  pub panels_few : m.panels ≤ n * last_key
  pub same : length now ≡ length before
  pub written : 3 * length L ≤ length before → sets now (3 * m.spans) (span_numbers (pairs_of E)) ≡ sets before 0 (span_numbers L)

-- the first two ends of a part
first-ahead : (p q : Corner) (R : List Corner) → Ends (p ∷ q ∷ R) → Ahead p q
first-ahead p q R e = e.sorted.0

first-row : (p q : Corner) (R : List Corner) → Ends (p ∷ q ∷ R) → p.1 ≡ q.1
first-row p q R e = pair_row p q R (turn_up-to (p ∷ q ∷ R) e.sorted) e.even

first-less : (p q : Corner) (R : List Corner) → Ends (p ∷ q ∷ R) → p.0 <ℤ q.0
first-less p q R e = let r = first-row p q R e in ⊎_elim (λ h. absurd (omega (zarith, h, r))) (λ h. h.1) e.sorted.0

-- they make a span
left_added : (p q : Corner) (R : List Corner) (L : List Span) (n n' : ℕ) (before now after : List ℤ) (m r : Measure) → KeyFits p → KeyFits q → n < n' → length after ≡ length now → Left (p ∷ q ∷ R) L n before m now
    → Added (end_key p) (end_key q) m now r after → Left R L n' before r after
left_added p q R L n n' before now after m r s t more len w a =
    let e = w.ends in
    let row = first-row p q R e in
    let gap = key_gap p q s t row (first-less p q R e) in
    let spans : r.spans ≡ m.spans + 1 = ap (λ (x : Measure). x.spans) a.measure in
    let panels : r.panels ≡ m.panels + (end_key q - end_key p) = ap (λ (x : Measure). x.panels) a.measure in
    record {
      ends = record { sorted = climbs_in_turn Ahead q R e.sorted.1; even = pairs_even p q R row e.even };
      many = omega (arith, spans, w.many);
      sum = omega (arith, panels, gap, w.sum);
      spans_few = omega (arith, spans, w.spans_few, more);
      panels_few = omega (arith, panels, w.panels_few, more, key_last q t);
      same = len ∙ w.same;
      written = λ h.
          let room : 3 * m.spans + 2 < length now = omega (arith, h, w.many, w.same) in
          let one : after ≡ sets now (3 * m.spans) (p.1 ∷ p.0 ∷ pred_ℤ q.0 ∷ []) = a.buffer room ∙ ap (sets now (3 * m.spans)) (span-back p q s t) in
          let at : 3 * r.spans ≡ 3 * m.spans + 3 = omega (arith, spans) in
          ap₂ (λ (l : List ℤ) (o : ℕ). sets l o (span_numbers (pairs_of R))) one at ∙ sym (sets_append now (3 * m.spans) (p.1 ∷ p.0 ∷ pred_ℤ q.0 ∷ []) (span_numbers (pairs_of R))) ∙ w.written h;
    }

left-same : (E : List Corner) (L : List Span) (n n' : ℕ) (before now after : List ℤ) (m r : Measure) → n ≤ n' → Left E L n before m now → (r ≡ m) × (after ≡ now) → Left E L n' before r after
left-same E L n n' before now after m r more w e =
    subst₂ (λ (x : Measure) (l : List ℤ). Left E L n' before x l) (sym e.0) (sym e.1)
    (record { ends = w.ends; many = w.many; sum = w.sum; spans_few = omega (arith, w.spans_few, more); panels_few = omega (arith, w.panels_few, more); same = w.same; written = w.written })

-- ---- a stop

-- the end of a span that is open, and what follows
abbrev open_ends : Bool → Corner → List Corner → List Corner
open_ends true c R = c ∷ R
open_ends false c R = R

-- a part lacks what comes after a stop if it had what came before
module _ (was is : Bool) (turns : was ≡ true → is ≡ true → ⊥) (at stop : Corner) (R : List Corner) where
  left-next : (L : List Span) (n n' : ℕ) (before now after : List ℤ) (m r : Measure) → KeyFits at → KeyFits stop → n < n' → length after ≡ length now → Left (open_ends was at (cond (differ was is) (stop ∷ R) R)) L n before m now
      → Closed was (end_key at) (end_key stop) m now r after → Left (open_ends is stop R) L n' before r after
  left-next L n n' before now after m r s t more len w c = by was is turns w c
    where
      by : (x y : Bool) → (x ≡ true → y ≡ true → ⊥) → Left (open_ends x at (cond (differ x y) (stop ∷ R) R)) L n before m now → Closed x (end_key at) (end_key stop) m now r after → Left (open_ends y stop R) L n' before r after
      by true true f w c = absurd (f refl refl)
      by true false f w c = left_added at stop R L n n' before now after m r s t more len w c
      by false true f w c = left-same (stop ∷ R) L n n' before now after m r (omega (arith, more)) w c
      by false false f w c = left-same R L n n' before now after m r (omega (arith, more)) w c

  left-ahead : was ≡ true → Ends (open_ends was at (cond (differ was is) (stop ∷ R) R)) → Ahead at stop
  left-ahead e w = by was is turns e w
    where
      by : (x y : Bool) → (x ≡ true → y ≡ true → ⊥) → x ≡ true → Ends (open_ends x at (cond (differ x y) (stop ∷ R) R)) → Ahead at stop
      by true true f e w = absurd (f refl refl)
      by true false f e w = first-ahead at stop R w
      by false y f e w = absurd (true≢false (sym e))

-- which rooms a part is in
abbrev ones : Part → ℕ
ones First = 1
ones Second = 0
ones Both = 1

abbrev twos : Part → ℕ
twos First = 0
twos Second = 1
twos Both = 1

has_bits : (k : Part) (x y : Bool) → part_has k x y ≡ true → (tally x ≡ ones k) × (tally y ≡ twos k)
has_bits First true true e = absurd (true≢false (sym e))
has_bits First true false e = (refl, refl)
has_bits First false y e = absurd (true≢false (sym e))
has_bits Second true true e = absurd (true≢false (sym e))
has_bits Second false true e = (refl, refl)
has_bits Second x false e = absurd (true≢false (sym e))
has_bits Both true true e = (refl, refl)
has_bits Both true false e = absurd (true≢false (sym e))
has_bits Both false y e = absurd (true≢false (sym e))

tally_few : (b : Bool) → tally b ≤ 1
tally_few true = omega arith
tally_few false = omega arith

-- every stop leads from one part to another
part_turns : (k : Part) (i j : ℕ) (one two : Bool) → i + j < (i + tally one) + (j + tally two) → part_has k (odd i) (odd j) ≡ true → part_has k (odd (i + tally one)) (odd (j + tally two)) ≡ true → ⊥
part_turns k i j one two more e f =
    let u = has_bits k (odd i) (odd j) e in
    let v = has_bits k (odd (i + tally one)) (odd (j + tally two)) f in
    omega (arith, more, u.0, u.1, v.0, v.1, tally-odd i, tally-odd j, tally-odd (i + tally one), tally-odd (j + tally two), tally_few one, tally_few two)

-- ---- one stop, for each part

pub odd_yes : (i : ℕ) → i % 2 ≡ 1 → odd i ≡ true
odd_yes i e = ap (λ (n : ℕ). eqb n 1) e

pub odd_no : (i : ℕ) → i % 2 ≡ 0 → odd i ≡ false
odd_no i e = ap (λ (n : ℕ). eqb n 1) e

-- what is known of each part, whether the first list is in a span or not, and the second
pub three_closed : (i j : ℕ) (u v : Bool) (from to : ℕ) (m r : Measures) (f g h f' g' h' : List ℤ) → odd i ≡ u → odd j ≡ v
    → Closed (part_has First u v) from to m.first f r.first f' → Closed (part_has Second u v) from to m.second g r.second g' → Closed (part_has Both u v) from to m.both h r.both h'
    → (k : Part) → Closed (part_has k (odd i) (odd j)) from to (in_parts m k) (of_parts f g h k) (in_parts r k) (of_parts f' g' h' k)
three_closed i j u v from to m r f g h f' g' h' e d x y z k = subst (λ (b : Bool). Closed b from to (in_parts m k) (of_parts f g h k) (in_parts r k) (of_parts f' g' h' k)) (sym (ap₂ (part_has k) e d)) (by k)
  where
    by : (k : Part) → Closed (part_has k u v) from to (in_parts m k) (of_parts f g h k) (in_parts r k) (of_parts f' g' h' k)
    by First = x
    by Second = y
    by Both = z

pub three-same : (f g h f' g' h' : List ℤ) → length f' ≡ length f → length g' ≡ length g → length h' ≡ length h → (k : Part) → length (of_parts f' g' h' k) ≡ length (of_parts f g h k)
three-same f g h f' g' h' x y z First = x
three-same f g h f' g' h' x y z Second = y
three-same f g h f' g' h' x y z Both = z

-- ---- the sweep

-- what is left of a part after i ends of one list and j of the other; the last is `at`
abbrev left_of : Part → List ℤ → ℕ → List ℤ → ℕ → ℕ → ℕ → ℕ → Corner → List Corner
left_of k a na b nb i j fuel at = open_ends (part_has k (odd i) (odd j)) at (part_rest k a i na b j nb fuel)

-- in the middle of it
pub record Sweeping (a : List ℤ) (na : ℕ) (b : List ℤ) (nb i j last : ℕ) (before : Part → List ℤ) (m : Measures) (now : Part → List ℤ) : Type 0 where
  pub fuel : ℕ
  pub enough : (na - i) + (nb - j) ≤ fuel
  pub first : i ≤ na
  pub second : j ≤ nb
  pub at : Corner
  pub key : last ≡ end_key at
  pub small : KeyFits at
  pub parts : (k : Part) → Left (left_of k a na b nb i j fuel at) (part_spans a na b nb k) (i + j) (before k) (in_parts m k) (now k)

abbrev nothing : Measure
nothing = record { panels = 0; spans = 0 }

spanned_ends : (l : List ℤ) (n : ℕ) → Spanned l n → Ends (ends_from l 0 n)
spanned_ends l n z = subst Ends (sym z.held.ends) (walk_ends z.start z.steps z.held.closed)

part_start : (k : Part) (a : List ℤ) (na : ℕ) (b : List ℤ) (nb : ℕ) (at : Corner) → left_of k a na b nb 0 0 (length (ends_from a 0 na) + length (ends_from b 0 nb)) at ≡ part_ends k (ends_from a 0 na) (ends_from b 0 nb)
part_start k a na b nb at = ap (λ (v : Bool). open_ends v at (part_rest k a 0 na b 0 nb (length (ends_from a 0 na) + length (ends_from b 0 nb)))) (none-none k) ∙ rest-start k a na b nb

module _ {a : List ℤ} {na : ℕ} {b : List ℤ} {nb : ℕ} (x : Spanned a na) (y : Spanned b nb) {before : Part → List ℤ} where
  pub sweep_start : Sweeping a na b nb 0 0 0 before (record { first = nothing; second = nothing; both = nothing }) before
  sweep_start = record {
    fuel = length (ends_from a 0 na) + length (ends_from b 0 nb);
    enough = omega (arith, length-ends_from a 0 na, length-ends_from b 0 nb);
    first = omega arith;
    second = omega arith;
    at = corner (negsuc 32767) (negsuc 32767);
    key = refl;
    small = (omega arith, omega arith);
    parts = λ k.
        subst₂ (λ (E : List Corner) (z : Measure). Left E (part_spans a na b nb k) 0 (before k) z (before k)) (sym (part_start k a na b nb (corner (negsuc 32767) (negsuc 32767)))) (sym (none k))
        (record { ends = ends-ends (ends_from a 0 na) (ends_from b 0 nb) (spanned_ends a na x) (spanned_ends b nb y) (part_has k) (none-none k); many = omega arith; sum = omega arith; spans_few = omega arith; panels_few = omega arith; same = refl; written = λ h. refl });
  }
    where
      none : (k : Part) → in_parts (record { first = nothing; second = nothing; both = nothing }) k ≡ nothing
      none First = refl
      none Second = refl
      none Both = refl

  module _ {i j last : ℕ} {m : Measures} {now : Part → List ℤ} (w : Sweeping a na b nb i j last before m now) where
    module _ (more : i + j < na + nb) {p q k' : ℕ} (ep : p ≡ key_at a na i) (eq : q ≡ key_at b nb j) (ek : k' ≡ min p q) where
      abbrev one : Bool
      one = eqb p k'

      abbrev two : Bool
      two = eqb q k'

      abbrev stop : Corner
      stop = cond one (end_at a i) (end_at b j)

      leads_one : leads (ends_from a i (na - i)) (ends_from b j (nb - j)) ≡ one
      leads_one = lead_key a i na b j nb x.held.numbers y.held.numbers more p q k' ep eq ek w.first w.second

      leads-two : leads (ends_from b j (nb - j)) (ends_from a i (na - i)) ≡ two
      leads-two = lead_key b j nb a i na y.held.numbers x.held.numbers (omega (arith, more)) q p k' eq ep (omega (arith, ek)) w.second w.first

      stop_is : KeyFits stop × (k' ≡ end_key stop)
      stop_is = next_key a i na b j nb x.held.numbers y.held.numbers more p q k' ep eq ek

      pub sweep_nearer : (i + tally one ≤ na) × (j + tally two ≤ nb) × (i + j < (i + tally one) + (j + tally two))
      sweep_nearer = step_nearer First a i na b j nb one two leads_one leads-two more w.first w.second

      fuel_left : (f : ℕ) × (w.fuel ≡ suc f)
      fuel_left = some_fuel ((na - i) + (nb - j)) w.fuel (omega (arith, more, w.first, w.second)) w.enough

      module _ (k : Part) where
        abbrev was : Bool
        was = part_has k (odd i) (odd j)

        abbrev is : Bool
        is = part_has k (odd (i + tally one)) (odd (j + tally two))

        abbrev rest : List Corner
        rest = part_rest k a (i + tally one) na b (j + tally two) nb fuel_left.0

        part_open : left_of k a na b nb i j w.fuel w.at ≡ open_ends was w.at (cond (differ was is) (stop ∷ rest) rest)
        part_open = ap (open_ends was w.at) (ap (λ (f : ℕ). part_rest k a i na b j nb f) fuel_left.1 ∙ stop-left k a i na b j nb fuel_left.0 one two leads_one leads-two more w.first w.second)

        turns : was ≡ true → is ≡ true → ⊥
        turns = part_turns k i j one two sweep_nearer.2

        in_order : was ≡ true → last ≤ k'
        in_order e =
            let h = left-ahead was is turns w.at stop rest e (subst Ends part_open (w.parts k).ends) in
            omega (arith, key_ahead w.at stop w.small stop_is.0 h, w.key, stop_is.1)

        part_step : (r : Measure) (after : List ℤ) → length after ≡ length (now k) → Closed was last k' (in_parts m k) (now k) r after → Left (open_ends is stop rest) (part_spans a na b nb k) ((i + tally one) + (j + tally two)) (before k) r after
        part_step r after len c =
            left-next was is turns w.at stop rest (part_spans a na b nb k) (i + j) ((i + tally one) + (j + tally two)) (before k) (now k) after (in_parts m k) r w.small stop_is.0 sweep_nearer.2 len
            (subst (λ (E : List Corner). Left E (part_spans a na b nb k) (i + j) (before k) (in_parts m k) (now k)) part_open (w.parts k))
            (subst₂ (λ (u v : ℕ). Closed was u v (in_parts m k) (now k) r after) w.key stop_is.1 c)

      pub sweep_closable : Closable i j last k' m
      sweep_closable = record {
        order = in_order;
        last = omega (arith, stop_is.1, key_last stop stop_is.0);
        few = λ k. let v = w.parts k in
            (omega (arith, v.spans_few, more, x.held.numbers.few, y.held.numbers.few), omega (arith, v.panels_few, more, x.held.numbers.few, y.held.numbers.few));
      }

      pub sweep_step : (r : Measures) (after : Part → List ℤ) (i' j' : ℕ) → i' ≡ i + tally one → j' ≡ j + tally two → ((k : Part) → length (after k) ≡ length (now k)) → ((k : Part) → Closed (part_has k (odd i) (odd j)) last k' (in_parts m k) (now k) (in_parts r k) (after k))
          → Sweeping a na b nb i' j' k' before r after
      sweep_step r after i' j' ei ej len c =
          subst₂ (λ (u v : ℕ). Sweeping a na b nb u v k' before r after) (sym ei) (sym ej)
          (record {
            fuel = fuel_left.0;
            enough = omega (arith, w.enough, fuel_left.1, sweep_nearer.0, sweep_nearer.1, sweep_nearer.2);
            first = sweep_nearer.0;
            second = sweep_nearer.1;
            at = stop;
            key = stop_is.1;
            small = stop_is.0;
            parts = λ k. part_step k (in_parts r k) (after k) (len k) (c k);
          })

    -- nothing is left at the end
    pub sweep_end : (i + j < na + nb → ⊥) → (k : Part) → Swept (part_spans a na b nb k) (before k) (in_parts m k) (now k)
    sweep_end h k =
        let none : left_of k a na b nb i j w.fuel w.at ≡ [] =
        ap₂ (λ (v : Bool) (R : List Corner). open_ends v w.at R) (ap₂ (part_has k) (even i na x.held.numbers.even (omega (arith, h, w.first, w.second))) (even j nb y.held.numbers.even (omega (arith, h, w.first, w.second))) ∙ none-none k) (left-none k a i na b j nb w.fuel (omega (arith, h, w.first, w.second)) (omega (arith, h, w.first, w.second))) in
        let v = subst (λ (E : List Corner). Left E (part_spans a na b nb k) (i + j) (before k) (in_parts m k) (now k)) none (w.parts k) in
        record {
          measure = ap₂ (λ (p s : ℕ). record { panels = p; spans = s }) (omega (arith, v.sum)) (omega (arith, v.many));
          buffer = v.written;
        }
      where
        even : (i n : ℕ) → n % 2 ≡ 0 → i ≡ n → odd i ≡ false
        even i n e f = ap (λ (t : ℕ). eqb (t % 2) 1) f ∙ ap (λ (t : ℕ). eqb t 1) e
