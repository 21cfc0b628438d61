use Rattle.ytext.proofs.cursor.Cursor.front.Goals as goal

pub returns-in-BeforeKeyword-clause-later : goal.returns-in-BeforeKeyword-clause-later
returns-in-BeforeKeyword-clause-later c = c.in_yang_1.ensures.later c.args.self.text.now c.args.self.at c.plain_front-front.ensures.later

pub returns-in-BeforeArgument-clause-later : goal.returns-in-BeforeArgument-clause-later
returns-in-BeforeArgument-clause-later c = c.in_yang_1-in-BeforeArgument.ensures.later c.args.self.text.now c.args.self.at c.longer.ensures.later

pub returns-in-BehindArgument-clause-later : goal.returns-in-BehindArgument-clause-later
returns-in-BehindArgument-clause-later c = c.in_yang_1-in-BehindArgument.ensures.later c.args.self.text.now c.args.self.at c.plain_front-front.ensures.later
