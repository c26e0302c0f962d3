-- The functions that take a part of the input, whatever is written for a line.
-- Assumes nothing.
use mathlib.Core.Path.{◌≡◌, refl, sym, ap, ◌∙◌, subst}
use mathlib.Core.Bool.{Bool, true, false, cond, ◌&&◌}
use mathlib.Core.List.{List, [], ◌++◌, append-nil}
use mathlib.Core.Logic.{◌⊎◌, inl, inr}
use Prim.Native.Nat.{ℕ, zero, suc, ◌+◌, ◌-◌, ◌<◌, ◌≤◌}
use native.Mathlib.Omega.{arith}
use lib.ListN.{length, take, drop, length-drop, length-take, length-append}
use lib.Seq.{take_all, take-add, drop-drop, length-take-le}
use lib.Dec.{ltb, leb}
use borrow.Author.Tests.{le-ltb, lt-ltb, le-leb, lt-leb}
use Rattle.line_frame.specs.Sizes.{most_held}
use Rattle.line_fields.specs.Put.{put, Wrote}
use Rattle.line_frame.specs.Begun.{line_length, has_feed, kept_of, passed_of, held_of}
use Rattle.line_stream.specs.Stream.{told_of, Job, Does, Fed}
use Rattle.line_stream.specs.Fill.{FedLine, Filled, Block, goes_on, fill_of, line_ended, line_after}
use Rattle.line_stream.specs.declared.Progress.{Progress}
use Rattle.line_fields.proofs.PutLaws.{take-put-start, take_put, drop-put, length-put, wrote_append}
use Rattle.line_stream.proofs.StreamLaws.{line_length_most, fed_passed, fed_nil, fed_append, passed_of_most, passed_of_some}

pub length-kept_of : (l : List ℕ) → length (kept_of l) ≤ most_held
length-kept_of l = omega (arith, length-take most_held l)

-- one line, or the rest q of the chunk: n is the place of its line feed in it, or its length
module _ (J : Job) (line q out : List ℕ) (held at used n : ℕ) (e : n ≡ line_length q) where
  -- no line feed: what is written early, and the rest of the chunk is held
  pub fed_held : (k u : ℕ) (line' out' : List ℕ) → length line ≡ most_held → length q ≤ n
      → Wrote (kept_of (take held line ++ take n q)) 0 line k line'
      → Wrote (J.early (take held line) (take n q)) used out u out'
      → FedLine J line held q at out used (record { held = k; at = at + n; used = u }) line' out'
  fed_held k u line' out' hl h w o =
      let m = line_length_most q in
      let f : has_feed q ≡ false = le-ltb (line_length q) (length q) (omega arith) in
      let a : take n q ≡ q = take_all n q h in
      let g : kept_of (take held line ++ take n q) ≡ kept_of (take held line ++ q) = ap (λ (l : List ℕ). kept_of (take held line ++ l)) a in
      let k1 : k ≡ length (kept_of (take held line ++ take n q)) = omega (arith, w.end) in
      record {
        output = rw f (subst (λ (l : List ℕ). Wrote (J.early (take held line) l) used out u out') a o);
        passed = rw f (omega arith);
        count = rw f (k1 ∙ ap length g);
        holds = rw f (ap (take k) w.buffer ∙ take-put-start (kept_of (take held line ++ take n q)) line k k1 (omega (arith, length-kept_of (take held line ++ take n q))) ∙ g);
        buffer = rw f (w.buffer ∙ ap (λ (l : List ℕ). put l 0 line) g);
      }

  -- a line that ends there: what is written early, and then what is written for the bytes that are kept, wherever these were read
  -- from
  module _ {told last : List ℕ → List ℕ} (does : Does J told last) (h : n < length q) (room : used + length (told_of J (take held line) q) ≤ length out)
      (v u : ℕ) (line' mid out' : List ℕ) (o : Wrote (J.early (take held line) (take n q)) used out v mid)
      (w : Wrote (J.told (kept_of (take held line ++ take n q)) []) v mid u out') where
    feeds : has_feed q ≡ true
    feeds = lt-ltb (line_length q) (length q) (omega arith)

    fed_told : Wrote (told_of J (take held line) q) used out u out'
    fed_told =
        let x : List ℕ = take held line in
        let r : List ℕ = take n q in
        let m : J.early x r ++ J.told (kept_of (x ++ r)) [] ≡ told_of J x q =
        does.more x r [] ∙ ap (J.told x) (append-nil r ∙ ap (λ (i : ℕ). take i q) e) ∙ sym (ap (λ (c : Bool). cond c (J.told x (take (line_length q) q)) (J.early x q)) feeds)
        in
        subst (λ (l : List ℕ). Wrote l used out u out') m (wrote_append o w (omega (arith, room, ap length m, length-append (J.early x r) (J.told (kept_of (x ++ r)) []))))

    pub fed_ended : line' ≡ line_ended line held (take n q) → FedLine J line held q at out used (record { held = 0; at = at + n + 1; used = u }) line' out'
    fed_ended b = record {
      output = fed_told;
      passed = rw feeds (omega arith);
      count = rw feeds refl;
      holds = rw feeds refl;
      buffer = rw feeds (b ∙ ap (λ (i : ℕ). line_ended line held (take i q)) e);
    }

-- the bytes that were put together
pub kept-bytes : (line : List ℕ) (k : ℕ) (line' : List ℕ) (l : List ℕ) → length line ≡ most_held → Wrote (kept_of l) 0 line k line' → take k line' ≡ kept_of l
kept-bytes line k line' l h v =
    let e : k ≡ length (kept_of l) = omega (arith, v.end) in
    ap (take k) v.buffer ∙ take-put-start (kept_of l) line k e (omega (arith, length-kept_of l))

held_of_most : (h s : List ℕ) → length (held_of h s) ≤ most_held
held_of_most h s = go (has_feed s)
  where
    go : (c : Bool) → length (cond c [] (kept_of (h ++ s))) ≤ most_held
    go true = omega arith
    go false = length-kept_of (h ++ s)

abbrev block : List ℕ → List ℕ → ℕ → List ℕ → Block
block w line held s = record { told = w; line = line; held = held; rest = s }

fill_of-next : (J : Job) (n room : ℕ) (w line : List ℕ) (held : ℕ) (s : List ℕ) → 0 < length s → length w + J.most ≤ room
    → fill_of J (suc n) room w line held s ≡ fill_of J n room (w ++ told_of J (take held line) s) (line_after line held s) (length (held_of (take held line) s)) (drop (passed_of s) s)
unfolding fill_of
fill_of-next J n room w line held s a m =
    ap (λ (b : Bool). elim b [ true ↦ fill_of J n room (w ++ told_of J (take held line) s) (line_after line held s) (length (held_of (take held line) s)) (drop (passed_of s) s) | false ↦ block w line held s ])
    (ap (λ (b : Bool). b && leb (length w + J.most) room) (lt-ltb 0 (length s) a) ∙ le-leb (length w + J.most) room m)

stops : (J : Job) (room : ℕ) (w s : List ℕ) → (length s ≡ 0) ⊎ (room < length w + J.most) → goes_on J.most room w s ≡ false
stops J room w s (inl e) = ap (λ (b : Bool). b && leb (length w + J.most) room) (le-ltb 0 (length s) (omega arith))
stops J room w s (inr l) = both (ltb 0 (length s)) (lt-leb (length w + J.most) room l)
  where
    both : (b : Bool) {c : Bool} → c ≡ false → b && c ≡ false
    both true e = e
    both false e = refl

fill_of-stop : (J : Job) (n room : ℕ) (w line : List ℕ) (held : ℕ) (s : List ℕ) → goes_on J.most room w s ≡ false → fill_of J n room w line held s ≡ block w line held s
unfolding fill_of
fill_of-stop J zero room w line held s e = refl
fill_of-stop J (suc n) room w line held s e =
    ap (λ (b : Bool). elim b [ true ↦ fill_of J n room (w ++ told_of J (take held line) s) (line_after line held s) (length (held_of (take held line) s)) (drop (passed_of s) s) | false ↦ block w line held s ]) e

-- what holds at the head of the loop over the lines of a chunk
pub record Filling (J : Job) (line₀ : List ℕ) (held₀ : ℕ) (s : List ℕ) (at₀ : ℕ) (out₀ line out : List ℕ) (p : Progress) : Type 0 where
  pub fed : Fed J (take held₀ line₀) (take (p.at - at₀) (drop at₀ s)) (take p.used out) (take p.held line)
  pub kept : drop p.used out ≡ drop p.used out₀
  pub most : p.held ≤ most_held
  pub room : p.used ≤ length out
  pub from : at₀ ≤ p.at
  pub to : p.at ≤ length s
  pub wide : length line ≡ length line₀
  pub long : length out ≡ length out₀
  pub moved : (p.used ≡ 0) ⊎ (at₀ < p.at)
  pub fuel : ℕ
  pub enough : length s - p.at ≤ fuel
  pub left : fill_of J fuel (length out₀) (take p.used out) line p.held (drop p.at s) ≡ fill_of J (length (drop at₀ s)) (length out₀) [] line₀ held₀ (drop at₀ s)

pub filling_start : (J : Job) (line s out : List ℕ) (held at : ℕ) → held ≤ most_held → at ≤ length s → Filling J line held s at out line out (record { held = held; at = at; used = 0 })
filling_start J line s out held at hh ha =
    let z : 0 ≡ at - at = omega arith in
    record {
      fed = subst (λ (n : ℕ). Fed J (take held line) (take n (drop at s)) [] (take held line)) z (fed_nil J (take held line));
      kept = refl;
      most = hh;
      room = omega arith;
      from = omega arith;
      to = ha;
      wide = refl;
      long = refl;
      moved = inl refl;
      fuel = length (drop at s);
      enough = omega (arith, length-drop at s);
      left = refl;
    }

module _ (J : Job) (line₀ : List ℕ) (held₀ : ℕ) (s : List ℕ) (at₀ : ℕ) (out₀ line out : List ℕ) (p : Progress) (i : Filling J line₀ held₀ s at₀ out₀ line out p)
    (r : Progress) (line' out' : List ℕ) (f : FedLine J line p.held (drop p.at s) p.at out p.used r line' out') where
  -- the chunk's bytes up to the next place
  next-bytes : take (p.at - at₀) (drop at₀ s) ++ take (passed_of (drop p.at s)) (drop p.at s) ≡ take (r.at - at₀) (drop at₀ s)
  next-bytes =
      let q : List ℕ = drop p.at s in
      let a : at₀ + (p.at - at₀) ≡ p.at = omega (arith, i.from) in
      let b : (p.at - at₀) + passed_of q ≡ r.at - at₀ = omega (arith, i.from, f.passed) in
      ap (λ (n : ℕ). take (p.at - at₀) (drop at₀ s) ++ take (passed_of q) (drop n s)) (sym a)
      ∙ ap (λ (l : List ℕ). take (p.at - at₀) (drop at₀ s) ++ take (passed_of q) l) (sym (drop-drop (p.at - at₀) at₀ s))
      ∙ sym (take-add (p.at - at₀) (passed_of q) (drop at₀ s))
      ∙ ap (λ (n : ℕ). take n (drop at₀ s)) b

  pub falls : p.at < length s → length s - r.at < length s - p.at
  falls h = omega (arith, f.passed, passed_of_some (drop p.at s) (omega (arith, length-drop p.at s)))

  left-next : (n : ℕ) → length s - p.at ≤ n → p.at < length s → p.used + J.most ≤ length out → take r.used out' ≡ take p.used out ++ told_of J (take p.held line) (drop p.at s)
      → fill_of J (n - 1) (length out₀) (take r.used out') line' r.held (drop r.at s) ≡ fill_of J n (length out₀) (take p.used out) line p.held (drop p.at s)
  left-next zero h a m e = absurd (omega arith)
  left-next (suc n) h a m e =
      let q : List ℕ = drop p.at s in
      let k : suc n - 1 ≡ n = omega arith in
      let l : length (take p.used out) ≡ p.used = length-take-le p.used out (omega arith) in
      ap (λ (i : ℕ). fill_of J i (length out₀) (take r.used out') line' r.held (drop r.at s)) k
      ∙ ap (λ (x : List ℕ). fill_of J n (length out₀) x line' r.held (drop r.at s)) e
      ∙ ap (λ (x : List ℕ). fill_of J n (length out₀) (take p.used out ++ told_of J (take p.held line) q) x r.held (drop r.at s)) f.buffer
      ∙ ap (λ (i : ℕ). fill_of J n (length out₀) (take p.used out ++ told_of J (take p.held line) q) (line_after line p.held q) i (drop r.at s)) f.count
      ∙ ap (λ (x : List ℕ). fill_of J n (length out₀) (take p.used out ++ told_of J (take p.held line) q) (line_after line p.held q) (length (held_of (take p.held line) q)) x)
      (ap (λ (i : ℕ). drop i s) f.passed ∙ sym (drop-drop (passed_of q) p.at s))
      ∙ sym (fill_of-next J n (length out₀) (take p.used out) line p.held q (omega (arith, length-drop p.at s)) (omega (arith, i.long)))

  pub filling_next : {told last : List ℕ → List ℕ} → Does J told last → p.used + J.most ≤ length out → p.used + length (told_of J (take p.held line) (drop p.at s)) ≤ length out → length line' ≡ length line → p.at < length s → Filling J line₀ held₀ s at₀ out₀ line' out' r
  filling_next {told} {last} does room g w h =
      let q : List ℕ = drop p.at s in
      let t : List ℕ = told_of J (take p.held line) q in
      let u : r.used ≡ p.used + length t = f.output.end in
      let l : length out' ≡ length out = ap length f.output.buffer ∙ length-put t p.used out g in
      let e : take r.used out' ≡ take p.used out ++ t = ap (λ (n : ℕ). take n out') u ∙ ap (take (p.used + length t)) f.output.buffer ∙ take_put t p.used out g in
      let d : p.used + (r.used - p.used) ≡ r.used = omega arith in
      record {
        fed =
            subst (λ (x : List ℕ). Fed J (take held₀ line₀) x (take r.used out') (take r.held line')) next-bytes
            (subst (λ (x : List ℕ). Fed J (take held₀ line₀) (take (p.at - at₀) (drop at₀ s) ++ take (passed_of q) q) x (take r.held line')) (sym e)
            (subst (λ (x : List ℕ). Fed J (take held₀ line₀) (take (p.at - at₀) (drop at₀ s) ++ take (passed_of q) q) (take p.used out ++ t) x) (sym f.holds)
            (fed_append J (take held₀ line₀) (take (p.at - at₀) (drop at₀ s)) (take p.used out) (take p.held line) (take (passed_of q) q) t (held_of (take p.held line) q)
            i.fed (fed_passed J told last does (take p.held line) q))));
        kept =
            ap (drop r.used) f.output.buffer
            ∙ drop-put t p.used out r.used (omega arith) (omega arith)
            ∙ ap (λ (n : ℕ). drop n out) (sym d)
            ∙ sym (drop-drop (r.used - p.used) p.used out)
            ∙ ap (drop (r.used - p.used)) i.kept
            ∙ drop-drop (r.used - p.used) p.used out₀
            ∙ ap (λ (n : ℕ). drop n out₀) d;
        most = omega (arith, f.count, held_of_most (take p.held line) q);
        room = omega arith;
        from = omega (arith, i.from, f.passed);
        to = omega (arith, i.to, f.passed, passed_of_most q, length-drop p.at s);
        wide = w ∙ i.wide;
        long = l ∙ i.long;
        moved = inr (omega (arith, i.from, f.passed, passed_of_some q (omega (arith, length-drop p.at s))));
        fuel = i.fuel - 1;
        enough = omega (arith, i.enough, falls h);
        left = left-next i.fuel i.enough h room e ∙ i.left;
      }

pub filling_done : (J : Job) (line₀ : List ℕ) (held₀ : ℕ) (s : List ℕ) (at₀ : ℕ) (out₀ line out : List ℕ) (p : Progress) → Filling J line₀ held₀ s at₀ out₀ line out p
    → (p.at ≡ length s) ⊎ (length out₀ < p.used + J.most) → Filled J line₀ held₀ s at₀ out₀ p line out
filling_done J line₀ held₀ s at₀ out₀ line out p i u = record {
  fed = i.fed;
  kept = i.kept;
  most = i.most;
  long = i.long;
  room = omega (arith, i.room, i.long);
  from = i.from;
  to = i.to;
  until = u;
  moves = λ a m. go a m u i.moved;
  exact = sym (fill_of-stop J i.fuel (length out₀) (take p.used out) line p.held (drop p.at s) (stops J (length out₀) (take p.used out) (drop p.at s) (end u))) ∙ i.left;
}
  where
    go : at₀ < length s → J.most ≤ length out₀ → (p.at ≡ length s) ⊎ (length out₀ < p.used + J.most) → (p.used ≡ 0) ⊎ (at₀ < p.at) → at₀ < p.at
    go a m u (inr h) = h
    go a m (inl e) (inl z) = omega arith
    go a m (inr l) (inl z) = absurd (omega arith)

    end : (p.at ≡ length s) ⊎ (length out₀ < p.used + J.most) → (length (drop p.at s) ≡ 0) ⊎ (length out₀ < length (take p.used out) + J.most)
    end (inl e) = inl (omega (arith, length-drop p.at s))
    end (inr l) = inr (omega (arith, length-take-le p.used out i.room))
