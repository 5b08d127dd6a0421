use Rattle.std.proofs.Common.{rules, sym, Ok}
use Rattle.checker.proofs.Exact.{told_exactly}
use Rattle.checker.proofs.Passing.{passed}
use Rattle.checker.proofs.Sheet.{first_row_is}
use Rattle.checker.proofs.accepting.check.Goals as goal

pub judge_term-requires-clause-tested : goal.judge_term-requires-clause-tested
judge_term-requires-clause-tested c = (passed c.args.types.now c.args.terms.now (sym c.in_ok-test_tables.ensures)).tested

pub returns-in_err-test_tables-clause-derivable : goal.returns-in_err-test_tables-clause-derivable
returns-in_err-test_tables-clause-derivable c = told_exactly c.args.types.now c.args.terms.now _ (search rules)

pub returns-in_err-judge_term-clause-derivable : goal.returns-in_err-judge_term-clause-derivable
returns-in_err-judge_term-clause-derivable c = told_exactly c.args.types.now c.args.terms.now _ (search rules)

pub returns-clause-derivable : goal.returns-clause-derivable
returns-clause-derivable c = told_exactly {A = Unit {0}} c.args.types.now c.args.terms.now (Ok tt) (search rules)

pub returns-in_err-test_tables-clause-first : goal.returns-in_err-test_tables-clause-first
returns-in_err-test_tables-clause-first c = first_row_is c.args.types.now c.args.terms.now _ (search rules)

pub returns-in_err-judge_term-clause-first : goal.returns-in_err-judge_term-clause-first
returns-in_err-judge_term-clause-first c = first_row_is c.args.types.now c.args.terms.now _ (search rules)

pub returns-clause-first : goal.returns-clause-first
returns-clause-first c = first_row_is c.args.types.now c.args.terms.now (Ok tt) (search rules)
