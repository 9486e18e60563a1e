pub mod GuiRounding
