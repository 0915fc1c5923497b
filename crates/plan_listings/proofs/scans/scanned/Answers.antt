use Rattle.std.proofs.Common.{◌≡◌, ◌∷◌, [], rules}
use Rattle.plan_listings.proofs.ScanNodes.{scans_one}
use Rattle.plan_listings.proofs.scans.scanned.Goals as goal

pub returns : goal.returns
returns c = scans_one c.args.table.now _ (search rules)
