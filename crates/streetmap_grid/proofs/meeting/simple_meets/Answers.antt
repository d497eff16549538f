use Rattle.streetmap_grid.proofs.meeting.simple_meets.Goals as goal

pub returns-in-MultiPoint : goal.returns-in-MultiPoint
returns-in-MultiPoint c =
    let h = rw c.items.ensures at c.some_point_meets.ensures in
    rw c.in-MultiPoint.is h

pub returns-in-MultiLineString : goal.returns-in-MultiLineString
returns-in-MultiLineString c =
    let h = rw c.items-in-MultiLineString.ensures at c.some_line_meets.ensures in
    rw c.in-MultiLineString.is h

pub returns-in-MultiPolygon : goal.returns-in-MultiPolygon
returns-in-MultiPolygon c =
    let h = rw c.items-in-MultiPolygon.ensures at c.some_polygon_meets.ensures in
    rw c.in-MultiPolygon.is h
