-- `counting::states::key_of` meets its contract. The loop's invariant: the digits so far, with those of the equations from e on behind them, make the key. The
-- measure is what is left. Rests on the laws of keys. Assumes nothing.
use native.Mathlib.Omega.{arith}
use Rattle.counting.proofs.Keys.{key_start, key_end, key_finished, key_unbegun, key_digit}
use Rattle.counting.proofs.states.key_of.Goals as goal
use Rattle.counting.proofs.states.key_of.Goals.{then-room-gt0+then-room-start_rooms+else-digits-gt-LONGEST_KEY, else-room-gt0, else-room-gt0-via-then-room-gt0+else-room-start_rooms, else-room-gt0-via-else-room-gt0}

pub loop-e-init : goal.loop-e-init
loop-e-init c = (omega arith, key_start _ _ _ _)

pub loop-e-preserved : goal.loop-e-preserved
loop-e-preserved c =
    let loop = c.loop-e in
    let test = c.loop-e-test.true in (
      omega (arith, test),
      elim c.if-room-gt0.branch [
        | then-room-gt0+then-room-start_rooms+else-digits-gt-LONGEST_KEY w ↦ rw (w.digits-is, w.wide_byte.ensures.0) (key_digit _ _ _ _ loop.e loop.digits test loop.invariant.1 w.if-room-gt0.true w.if-room-start_rooms.true)
        | else-room-gt0 w ↦ rw w.digits-is
            elim w.else-room-gt0.branch [
              | else-room-gt0-via-then-room-gt0+else-room-start_rooms v ↦ key_unbegun _ _ _ _ loop.e loop.digits test loop.invariant.1 (omega (arith, v.if-room-start_rooms.false))
              | else-room-gt0-via-else-room-gt0 v ↦ key_finished _ _ _ _ loop.e loop.digits test loop.invariant.1 (omega (arith, v.if-room-gt0.false))
            ]
      ],
    )

pub returns : goal.returns
returns c = key_end _ _ _ _ c.loop-e.e c.loop-e.digits (omega (arith, c.loop-e-test.false)) c.loop-e.invariant.1
