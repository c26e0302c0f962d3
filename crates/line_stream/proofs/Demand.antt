-- Whatever a program writes for a line: the parts in which its input comes make no difference, and a call has one answer.
-- Assumes nothing.
use mathlib.Core.Path.{◌≡◌, sym, ap, ◌∙◌}
use mathlib.Core.List.{List, [], ◌++◌}
use Prim.Native.Nat.{ℕ}
use native.Mathlib.Omega.{arith}
use lib.ListN.{length, take, drop, length-drop, take-append-drop}
use lib.Seq.{length-take-le}
use Rattle.line_frame.specs.Program.{output_from}
use Rattle.line_stream.specs.Stream.{Job, Does, Run, joined}
use Rattle.line_stream.specs.Fill.{Filled, Block}
use Rattle.line_stream.specs.declared.Progress.{Progress}
use Rattle.line_stream.proofs.StreamLaws as stream_laws

-- whatever the parts in which an input comes, what is written is the output for the whole
pub run_output : {J : Job} {told last : List ℕ → List ℕ} → Does J told last → {o : List ℕ} {ss : List (List ℕ)} → Run J [] ss o → o ≡ output_from told last [] (joined ss)
run_output {J} {told} {last} d r = stream_laws.run_output J told last d r

progress_one : (r r' : Progress) → r.held ≡ r'.held → r.at ≡ r'.at → r.used ≡ r'.used → r ≡ r'
progress_one r r' h a u =
    ap {A = ℕ} {B = Progress} (λ (x : ℕ). record { held = x; at = r.at; used = r.used }) h
    ∙ ap {A = ℕ} {B = Progress} (λ (x : ℕ). record { held = r'.held; at = x; used = r.used }) a
    ∙ ap {A = ℕ} {B = Progress} (λ (x : ℕ). record { held = r'.held; at = r'.at; used = x }) u

-- lines, as far as the output is long enough
module _ {J : Job} {line : List ℕ} {held : ℕ} {s : List ℕ} {at : ℕ} {out : List ℕ} {r r' : Progress} {l l' o o' : List ℕ} where
  pub filled-one : Filled J line held s at out r l o → Filled J line held s at out r' l' o' → (r ≡ r') × (l ≡ l') × (o ≡ o')
  filled-one f g =
      let e = f.exact ∙ sym g.exact in
      let t : take r.used o ≡ take r'.used o' = ap (λ (b : Block). b.told) e in
      let d : drop r.at s ≡ drop r'.at s = ap (λ (b : Block). b.rest) e in
      let u : r.used ≡ r'.used =
      omega (arith, ap length t, length-take-le r.used o (omega (arith, f.room, f.long)), length-take-le r'.used o' (omega (arith, g.room, g.long)))
      in
      let a : r.at ≡ r'.at = omega (arith, ap length d, length-drop r.at s, length-drop r'.at s, f.to, g.to) in (
        progress_one r r' (ap (λ (b : Block). b.held) e) a u,
        ap (λ (b : Block). b.line) e,
        sym (take-append-drop r.used o)
            ∙ ap (λ (x : List ℕ). x ++ drop r.used o) t
            ∙ ap (λ (x : List ℕ). take r'.used o' ++ x) (f.kept ∙ ap (λ (n : ℕ). drop n out) u ∙ sym g.kept)
            ∙ take-append-drop r'.used o',
      )
