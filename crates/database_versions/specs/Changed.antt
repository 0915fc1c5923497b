-- What a change of the tables of a version leaves. Our own choice.
use Rattle.std.specs.Prelude.{◌≡◌}
use Rattle.store.specs.Contents.{Contents}
use Rattle.pool.specs.Pages.{PageMap}
use Rattle.database_versions.specs.Databases.{IsDatabase, contents_in}

-- the version with these pages over it is a database of these tables
pub record IsNow (version written : PageMap) (contents : Contents) : Type 0 where
  pub is : IsDatabase version written
  pub shows : contents_in version written ≡ contents
