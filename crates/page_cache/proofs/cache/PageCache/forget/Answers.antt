use Rattle.page_cache.proofs.FrameLemmas.{forgotten}
use Rattle.page_cache.proofs.cache.PageCache.forget.Goals as goal

pub returns-clause-gone : goal.returns-clause-gone
returns-clause-gone c n page has = forgotten c.args.self.now.frames c.pop.new.self c.args.number c.pop.ensures.entries c.len-frames.ensures.valid.0 n page has
