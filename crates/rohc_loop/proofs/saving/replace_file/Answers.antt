use Rattle.std.proofs.Common.{◌∙◌}
use Rattle.rohc_loop.proofs.SaveLemmas.{failed_filling, failed_naming, failed_folder, all_saved}
use Rattle.rohc_loop.proofs.saving.replace_file.Goals as goal

pub returns-in-Err : goal.returns-in-Err
returns-in-Err g c =
    failed_filling _ _ c.args.date c.args.path.now c.as_str.result.now c.as_str-in-Err.result.now c.args.octets.now c.new.result c.in-Err.trouble
    (c.as_str.ensures.value ∙ c.in-Some.ensures) (c.as_str-in-Err.ensures.value ∙ c.in-Some.ensures) c.in-Err.ensures c.new.ensures

pub returns-in-Err-put_in_place : goal.returns-in-Err-put_in_place
returns-in-Err-put_in_place g c =
    failed_naming _ _ _ c.args.date c.args.path.now c.as_str.result.now c.as_str-2.result.now c.args.octets.now c.new-in-Err-put_in_place.result
    c.in-Err-put_in_place.trouble (c.as_str.ensures.value ∙ c.in-Some.ensures) (c.as_str-2.ensures.value ∙ c.in-Some.ensures)
    c.in-Ok.ensures c.in-Err-put_in_place.ensures c.new-in-Err-put_in_place.ensures

pub returns-in-Ok-sync_folder : goal.returns-in-Ok-sync_folder
returns-in-Ok-sync_folder g c =
    all_saved _ _ _ _ c.args.date c.args.path.now c.as_str.result.now c.as_str-2.result.now c.args.octets.now c.folder_of-folder.result.now
    (c.as_str.ensures.value ∙ c.in-Some.ensures) (c.as_str-2.ensures.value ∙ c.in-Some.ensures)
    c.in-Ok.ensures c.in-Ok-put_in_place.ensures c.folder_of-folder.ensures c.in-Ok-sync_folder.ensures.told

pub returns : goal.returns
returns g c =
    failed_folder _ _ _ _ c.args.date c.args.path.now c.as_str.result.now c.as_str-2.result.now c.args.octets.now c.folder_of-folder.result.now
    c.new-in-Err-sync_folder.result c.in-Err-sync_folder.trouble
    (c.as_str.ensures.value ∙ c.in-Some.ensures) (c.as_str-2.ensures.value ∙ c.in-Some.ensures)
    c.in-Ok.ensures c.in-Ok-put_in_place.ensures c.folder_of-folder.ensures c.in-Err-sync_folder.ensures.told
    c.new-in-Err-sync_folder.ensures
