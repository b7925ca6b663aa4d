-- A word that is no time, or none of 16 bits, is refused.
use Rattle.std.proofs.Common.{◌≡◌, arith}
use Rattle.member.proofs.Laws.Answers.{time_told_lem, no_time, time_too_large}
use Rattle.member.proofs.member_time.Goals as goal

pub returns-in_default : goal.returns-in_default
returns-in_default c = time_too_large _ _ (omega (arith, c.in_default.ensures)) c.refused_by.ensures

pub returns-in-Some : goal.returns-in-Some
returns-in-Some c = let h : c.in-Ok.word ≡ c.args.word = omega (arith, c.in-Ok.ensures) in search time_told_lem

pub returns-in-None : goal.returns-in-None
returns-in-None c = let h : c.in-Ok.word ≡ c.args.word = omega (arith, c.in-Ok.ensures) in search no_time
