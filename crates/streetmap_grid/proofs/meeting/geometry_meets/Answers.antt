use Rattle.streetmap_grid.proofs.meeting.geometry_meets.Goals as goal

pub returns-in-Collection : goal.returns-in-Collection
returns-in-Collection c =
    let h = rw c.items.ensures at c.some_member_meets.ensures in
    rw c.in-Collection.is h
