use Rattle.page_cache.proofs.FrameLemmas.{none_clean}
use Rattle.page_cache.proofs.cache.PageCache.new.Goals as goal

pub returns-clause-clean : goal.returns-clause-clean
returns-clause-clean c shows = none_clean shows c.in_ok-frames.frames c.args.frames c.in_ok-frames.ensures
