-- `effects::do_item` meets its contract: each arm is that of `do_item`, by what its callees ensure. Assumes nothing.
use Rattle.effects.proofs.Arms.{emitted, raised, added, saturated, stored, logged}
use Rattle.effects.proofs.do_item.Goals as goal

pub returns-in-Emit : goal.returns-in-Emit
returns-in-Emit c = emitted _ _ _ _ _ c.in-Emit.is c.emit.ensures

pub returns-in-Raise : goal.returns-in-Raise
returns-in-Raise c = raised _ _ _ _ _ c.in-Raise.is c.raise.ensures

pub returns-in-WrapAdd : goal.returns-in-WrapAdd
returns-in-WrapAdd c =
    let item = c.in-WrapAdd.is in
    added _ _ _ _ _ c.wide-i.ensures.is c.put.ensures item c.word-x.ensures c.wrap_add.ensures

pub returns-in-SatAdd : goal.returns-in-SatAdd
returns-in-SatAdd c =
    let item = c.in-SatAdd.is in
    saturated _ _ _ _ _ c.wide-i-in-SatAdd.ensures.is c.put-in-SatAdd.ensures item c.word-x-in-SatAdd.ensures c.sat_add.ensures

pub returns-in-Set : goal.returns-in-Set
returns-in-Set c = stored _ _ _ _ _ c.wide.ensures.is c.put-in-Set.ensures c.in-Set.is

pub returns-in-Log : goal.returns-in-Log
returns-in-Log c =
    let item = c.in-Log.is in
    logged _ _ _ _ _ item c.wide-in-Log.ensures.is c.word-x-in-Log.ensures c.emit-in-Log.ensures
