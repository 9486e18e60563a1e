pub mod WidgetRect
