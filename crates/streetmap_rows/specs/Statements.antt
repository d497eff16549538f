-- The texts of the statements.
use Rattle.std.specs.Prelude.{ℕ, List, codes}

-- ---- writes of one row

abbrev pub insert_collection : List ℕ
insert_collection = codes "INSERT INTO streetmap_collections (id, title, time) VALUES (?1, ?2, ?3)"

abbrev pub insert_feature : List ℕ
insert_feature = codes
    "INSERT INTO streetmap_features (collection, id, body, x0, y0, x1, y1, s0, s1) VALUES (?1, ?2, ?3, ?4, ?5, ?6, ?7, ?8, ?9)"

abbrev pub insert_batch : List ℕ
insert_batch = codes
    "INSERT INTO streetmap_batches (key, body, opened, inserted, replaced, deleted, serial) VALUES (?1, ?2, ?3, ?4, ?5, ?6, ?7)"

abbrev pub delete_feature : List ℕ
delete_feature = codes "DELETE FROM streetmap_features WHERE collection = ?1 AND id = ?2"

-- ---- a write of twenty-five rows

abbrev pub insert_features : List ℕ
insert_features = codes
    "INSERT INTO streetmap_features (collection, id, body, x0, y0, x1, y1, s0, s1) VALUES (?1, ?2, ?3, ?4, ?5, ?6, ?7, ?8, ?9), (?10, ?11, ?12, ?13, ?14, ?15, ?16, ?17, ?18), (?19, ?20, ?21, ?22, ?23, ?24, ?25, ?26, ?27), (?28, ?29, ?30, ?31, ?32, ?33, ?34, ?35, ?36), (?37, ?38, ?39, ?40, ?41, ?42, ?43, ?44, ?45), (?46, ?47, ?48, ?49, ?50, ?51, ?52, ?53, ?54), (?55, ?56, ?57, ?58, ?59, ?60, ?61, ?62, ?63), (?64, ?65, ?66, ?67, ?68, ?69, ?70, ?71, ?72), (?73, ?74, ?75, ?76, ?77, ?78, ?79, ?80, ?81), (?82, ?83, ?84, ?85, ?86, ?87, ?88, ?89, ?90), (?91, ?92, ?93, ?94, ?95, ?96, ?97, ?98, ?99), (?100, ?101, ?102, ?103, ?104, ?105, ?106, ?107, ?108), (?109, ?110, ?111, ?112, ?113, ?114, ?115, ?116, ?117), (?118, ?119, ?120, ?121, ?122, ?123, ?124, ?125, ?126), (?127, ?128, ?129, ?130, ?131, ?132, ?133, ?134, ?135), (?136, ?137, ?138, ?139, ?140, ?141, ?142, ?143, ?144), (?145, ?146, ?147, ?148, ?149, ?150, ?151, ?152, ?153), (?154, ?155, ?156, ?157, ?158, ?159, ?160, ?161, ?162), (?163, ?164, ?165, ?166, ?167, ?168, ?169, ?170, ?171), (?172, ?173, ?174, ?175, ?176, ?177, ?178, ?179, ?180), (?181, ?182, ?183, ?184, ?185, ?186, ?187, ?188, ?189), (?190, ?191, ?192, ?193, ?194, ?195, ?196, ?197, ?198), (?199, ?200, ?201, ?202, ?203, ?204, ?205, ?206, ?207), (?208, ?209, ?210, ?211, ?212, ?213, ?214, ?215, ?216), (?217, ?218, ?219, ?220, ?221, ?222, ?223, ?224, ?225)"

-- ---- reads by a key

abbrev pub select_batch : List ℕ
select_batch = codes
    "SELECT body, opened, inserted, replaced, deleted, serial FROM streetmap_batches WHERE key = ?1"

abbrev pub select_collection : List ℕ
select_collection = codes "SELECT title, time FROM streetmap_collections WHERE id = ?1"

abbrev pub select_id : List ℕ
select_id = codes "SELECT id FROM streetmap_features WHERE collection = ?1 AND id = ?2"

abbrev pub select_format : List ℕ
select_format = codes "SELECT value FROM streetmap_meta WHERE name = 'format'"

-- ---- the candidates of a page

abbrev pub select_all : List ℕ
select_all = codes "SELECT body FROM streetmap_features WHERE collection = ?1 ORDER BY id"

abbrev pub select_in_box : List ℕ
select_in_box = codes
    "SELECT body FROM streetmap_features WHERE collection = ?1 AND x0 <= ?2 AND x1 >= ?3 AND y0 <= ?4 AND y1 >= ?5 ORDER BY id"

abbrev pub select_in_time : List ℕ
select_in_time = codes
    "SELECT body FROM streetmap_features WHERE collection = ?1 AND s0 <= ?2 AND s1 >= ?3 ORDER BY id"

abbrev pub select_in_both : List ℕ
select_in_both = codes
    "SELECT body FROM streetmap_features WHERE collection = ?1 AND x0 <= ?2 AND x1 >= ?3 AND y0 <= ?4 AND y1 >= ?5 AND s0 <= ?6 AND s1 >= ?7 ORDER BY id"

-- ---- all collections

abbrev pub select_collections : List ℕ
select_collections = codes "SELECT id, title, time FROM streetmap_collections ORDER BY id"
