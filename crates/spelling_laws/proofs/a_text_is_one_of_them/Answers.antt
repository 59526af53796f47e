use Rattle.spelling_laws.proofs.Texts.{full_one_of_them, served_one_of_them}
use Rattle.spelling_laws.proofs.a_text_is_one_of_them.Goals as goal

pub returns-clause-full : goal.returns-clause-full
returns-clause-full c = full_one_of_them

pub returns-clause-served : goal.returns-clause-served
returns-clause-served c = served_one_of_them
