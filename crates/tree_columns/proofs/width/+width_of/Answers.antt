use Rattle.std.proofs.Common.{refl}
use Rattle.tree_columns.proofs.WidthNodes.{wide_scan, wide_filter, wide_product, wide_inner, wide_left, wide_half, wide_opposite, wide_group, wide_project, wide_distinct, wide_set, wide_sort, wide_seek, wide_range, wide_index_loop, wide_hash_join, wide_member}
use Rattle.tree_columns.proofs.width.+width_of.Goals as goal

pub returns-in-Scan : goal.returns-in-Scan
returns-in-Scan t c = rw (c.in-Scan.is, wide_scan)

pub returns-in-Filter : goal.returns-in-Filter
returns-in-Filter t c = rw (c.in-Filter.is, wide_filter, ← c.get.ensures) c.width_of.ensures

pub returns-in-Product : goal.returns-in-Product
returns-in-Product t c = rw (c.in-Product.is, wide_product, ← c.get-in-Product.ensures, ← c.get-in-Product-2.ensures) (c.sum_of.ensures _ _ c.width_of-in-Product.ensures c.width_of-in-Product-2.ensures)

pub returns-in-Inner : goal.returns-in-Inner
returns-in-Inner t c = rw (c.in-Inner.is, wide_inner, ← c.get-in-Inner.ensures, ← c.get-in-Inner-2.ensures) (c.sum_of-in-Inner.ensures _ _ c.width_of-in-Inner.ensures c.width_of-in-Inner-2.ensures)

pub returns-in-Left : goal.returns-in-Left
returns-in-Left t c = rw (c.in-Left.is, wide_left, ← c.get-in-Left.ensures, ← c.get-in-Left-2.ensures) (c.sum_of-in-Left.ensures _ _ c.width_of-in-Left-2.ensures (c.both_of-padded.ensures _ _ c.width_of-in-Left.ensures refl))

pub returns-in-Half : goal.returns-in-Half
returns-in-Half t c = rw (c.in-Half.is, wide_half, ← c.get-in-Half.ensures) c.width_of-in-Half.ensures

pub returns-in-OppositeHalf : goal.returns-in-OppositeHalf
returns-in-OppositeHalf t c = rw (c.in-OppositeHalf.is, wide_opposite, ← c.get-in-OppositeHalf.ensures) c.width_of-in-OppositeHalf.ensures

pub returns-in-Group : goal.returns-in-Group
returns-in-Group t c = rw (c.in-Group.is, wide_group, ← c.number_of.ensures, ← c.len.ensures) c.sum.ensures

pub returns-in-Project : goal.returns-in-Project
returns-in-Project t c = rw (c.in-Project.is, wide_project, ← c.len-in-Project.ensures)

pub returns-in-Distinct : goal.returns-in-Distinct
returns-in-Distinct t c = rw (c.in-Distinct.is, wide_distinct, ← c.get-in-Distinct.ensures) c.width_of-in-Distinct.ensures

pub returns-in-Set : goal.returns-in-Set
returns-in-Set t c = rw (c.in-Set.is, wide_set, ← c.get-in-Set.ensures, ← c.get-in-Set-2.ensures) (c.both_of.ensures _ _ c.width_of-in-Set.ensures c.width_of-in-Set-2.ensures)

pub returns-in-Sort : goal.returns-in-Sort
returns-in-Sort t c = rw (c.in-Sort.is, wide_sort, ← c.get-in-Sort.ensures) c.width_of-in-Sort.ensures

pub returns-in-Seek : goal.returns-in-Seek
returns-in-Seek t c = rw (c.in-Seek.is, wide_seek)

pub returns-in-Range : goal.returns-in-Range
returns-in-Range t c = rw (c.in-Range.is, wide_range)

pub returns-in-IndexLoop : goal.returns-in-IndexLoop
returns-in-IndexLoop t c = rw (c.in-IndexLoop.is, wide_index_loop, ← c.get-in-IndexLoop.ensures) (c.sum_of-in-IndexLoop.ensures _ _ c.width_of-in-IndexLoop.ensures refl)

pub returns-in-HashJoin : goal.returns-in-HashJoin
returns-in-HashJoin t c = rw (c.in-HashJoin.is, wide_hash_join, ← c.get-in-HashJoin.ensures, ← c.get-in-HashJoin-2.ensures) (c.sum_of-in-HashJoin.ensures _ _ c.width_of-in-HashJoin.ensures c.width_of-in-HashJoin-2.ensures)

pub returns-in-Member : goal.returns-in-Member
returns-in-Member t c = rw (c.in-Member.is, wide_member, ← c.get-in-Member.ensures) c.width_of-in-Member.ensures
