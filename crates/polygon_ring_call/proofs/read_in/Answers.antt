-- `polygon_ring_call::read_in` meets its contract.
use Rattle.std.specs.Prelude.{Err, Ok}
use Rattle.std.proofs.Common.{rules}
use native.Mathlib.Omega.{arith}
use Prim.Native.Nat.{◌-◌, ◌*◌, ◌/◌}
use lib.ListN.{length}
use mathlib.Core.Path.{◌≡◌, refl, sym, ◌∙◌}
use Rattle.polygon_ring_laws.proofs.RingLaws.{part_room}
use Rattle.polygon_ring_laws.proofs.ReadLaws.{read_uneven, ready, read_written, read_kept}
use Rattle.polygon_ring_call.proofs.read_in.Goals as goal

pub returns-then-not-is_whole : goal.returns-then-not-is_whole
returns-then-not-is_whole c =
    let w = c.is_whole in
    read_uneven c.args.little c.args.file.now w.result w.ensures c.args.chain.now
    c.if-not-is_whole.true-raw

pub put_chain-requires : goal.put_chain-requires
put_chain-requires c =
    let v = c.survey in
    let w = c.is_whole in
    let r = ready c.args.little c.args.file.now w.result w.ensures c.if-not-is_whole.false-raw
    (length c.args.chain.now) v.result v.ensures c.in_ok-found.found c.in_ok-found.was in
    (r.0, r.1, r.2, r.3)

pub invariant_of-points : goal.invariant_of-points
invariant_of-points c = record { whole = part_room c.args.file.now 13 (16 * ((length c.args.file.now - 13) / 16)) (omega (arith, c.requires)) }

pub returns : goal.returns
returns c =
    let v = c.survey in
    let w = c.is_whole in
    read_written c.args.little c.args.file.now w.result w.ensures c.if-not-is_whole.false-raw
    (length c.args.chain.now) (Ok c.in_ok-found.found) (sym c.in_ok-found.was ∙ v.ensures) c.args.chain.now
    c.put_chain.new.out c.in_ok-found.found refl refl c.put_chain.ensures

pub returns-in_err-found : goal.returns-in_err-found
returns-in_err-found c =
    let v = c.survey in
    let w = c.is_whole in
    let r : c.from_residual.result ≡ Err c.in_err-found.field-0.0 = search rules in
    let same : c.survey.result ≡ c.from_residual.result = c.in_err-found.was ∙ sym r in
    read_kept c.args.little c.args.file.now w.result w.ensures c.if-not-is_whole.false-raw
    (length c.args.chain.now) c.from_residual.result (sym same ∙ v.ensures) c.args.chain.now c.in_err-found.field-0.0 refl r
