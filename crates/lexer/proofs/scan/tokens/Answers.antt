use Rattle.lexer.proofs.Unique.{only_tokens, only_fault}
use Rattle.lexer.proofs.scan.tokens.Goals as goal

pub returns-clause-only : goal.returns-clause-only
returns-clause-only c = only_tokens (λ found. found.items) c.args.text.now c.read_tokens.result c.read_tokens.ensures.found c.read_tokens.ensures.fault

pub returns-clause-only_fault : goal.returns-clause-only_fault
returns-clause-only_fault c = only_fault (λ found. found.items) c.args.text.now c.read_tokens.result c.read_tokens.ensures.found c.read_tokens.ensures.fault
