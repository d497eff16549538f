use Rattle.streetmap_store.proofs.keeper.TableKeeperTagged.tag.Goals as goal

pub returns : goal.returns
returns g c = c.batch_count.ensures
