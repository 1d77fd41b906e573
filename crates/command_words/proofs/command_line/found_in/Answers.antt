use Rattle.command_words.proofs.Reading.{are_found}
use Rattle.command_words.proofs.command_line.found_in.Goals as goal

pub unwrap-file-requires : goal.unwrap-file-requires
unwrap-file-requires c =
    (are_found c.args.matches.now c.subcommand.result c.unwrap.result c.get_str-number.result c.get_str.result c.requires.0 c.requires.1 c.unwrap.ensures c.subcommand.ensures.name c.subcommand.ensures.rows c.get_str-number.ensures c.get_str.ensures).there

pub returns : goal.returns
returns c =
    (are_found c.args.matches.now c.subcommand.result c.unwrap.result c.get_str-number.result c.get_str.result c.requires.0 c.requires.1 c.unwrap.ensures c.subcommand.ensures.name c.subcommand.ensures.rows c.get_str-number.ensures c.get_str.ensures).read
    c.unwrap-file.result c.unwrap-file.ensures
